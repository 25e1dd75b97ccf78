-- `write::writing::settle` meets its contract. Assumes nothing.
use Prim.Native.Nat.{ℕ}
use mathlib.Core.Path.{sym, ap, ◌∙◌}
use mathlib.Core.List.{List}
use Rattle.meaning.specs.Answer.{accepted}
use Rattle.meaning.specs.Width.{Written}
use Rattle.write.specs.Answers.{answer_of, unplaced, came_to}
use Rattle.write.proofs.Calls.{too_large, fits_both, cleared_behind}
use native.Mathlib.Omega.{arith}
use Rattle.write.proofs.writing.settle.Goals as goal

pub returns-then-min-put : goal.returns-then-min-put
unfolding unplaced came_to answer_of
returns-then-min-put c = sym (too_large c.args.put c.args.out.now c.min.result c.min.ensures c.if-min-put.true)

pub returns : goal.returns
unfolding unplaced came_to answer_of
returns c =
    let a = c.args in
    let e = cleared_behind a.put.count a.out.now _ (omega (arith, c.min.ensures, c.if-min-put.false)) (c.fill.ensures.after (λ y e. e)) in
    let with : List ℕ → Written = λ (o : List ℕ). record { answer = accepted a.put.count 0 0; output = o } in
    ap with e ∙ sym (fits_both a.put a.out.now c.min.result c.min.ensures c.if-min-put.false)
