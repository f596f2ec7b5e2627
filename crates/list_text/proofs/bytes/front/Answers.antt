use Rattle.std.proofs.Common.{◌∙◌, rules}
use Rattle.std.proofs.lemmas.List.Folds.{length-prefix_len}
use Rattle.std.proofs.lemmas.Iterator.{YieldsList-from_slice}
use Rattle.std.proofs.lemmas.Iterator.Search.{YieldsList-from_take_while}
use Rattle.std.proofs.lemmas.Iterator.Consumers.{count_from_yields_List}
use Rattle.list_text.proofs.bytes.front.Goals as goal

pub returns-clause-many : goal.returns-clause-many
returns-clause-many g c = λ test ok.
    count_from_yields_List _ _ c.count.ensures.ran (YieldsList-from_take_while _ test (YieldsList-from_slice c.args.bytes.now (cc)) c.take_while.ensures.closure c.take_while.ensures.done (λ x b q k. search (rules, ok)))
    ∙ length-prefix_len test c.args.bytes.now
