use Rattle.std.proofs.Common.{◌∙◌, arith}
use Rattle.networks.proofs.Ledgers.{row_at, past_room, past_row}
use Rattle.networks.proofs.rows.Row.window.Goals as goal

pub returns-then-w-self : goal.returns-then-w-self
returns-then-w-self g c = c.any.ensures ∙ past_row c.args.self.now c.args.w c.if-w-self.true

pub returns-in-0 : goal.returns-in-0
returns-in-0 g c = row_at c.args.self.now c.args.w 0 c.in-0.is c.if-w-self.false

pub returns-in-1 : goal.returns-in-1
returns-in-1 g c = row_at c.args.self.now c.args.w 1 c.in-1.is c.if-w-self.false

pub returns-in-2 : goal.returns-in-2
returns-in-2 g c = row_at c.args.self.now c.args.w 2 c.in-2.is c.if-w-self.false

pub returns-in-3 : goal.returns-in-3
returns-in-3 g c = row_at c.args.self.now c.args.w 3 c.in-3.is c.if-w-self.false

pub returns-in_default : goal.returns-in_default
returns-in_default g c = c.any-in_default.ensures ∙ past_room c.args.self.now c.args.w (omega arith) c.if-w-self.false
