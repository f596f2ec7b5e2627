use Rattle.std.proofs.Common.{rules, ◌∙◌}
use Rattle.layers.proofs.Selections.{selected_count}
use Rattle.layers.proofs.selected.Selection.kept_windows.Goals as goal

pub returns : goal.returns
returns g c =
    c.from.ensures
    ∙ selected_count (g.T.Source.means c.args.under.now) c.args.self.now.windows c.args.k c.number.result c.is_some_and-kept.result
    c.number.ensures c.is_some_and-kept.ensures (λ n q. search rules)
