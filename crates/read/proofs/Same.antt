-- Two outcomes of a call coincide. Assumes nothing.
use mathlib.Core.Path.{◌≡◌, sym, ◌∙◌}
use lib.ListN.{length}
use borrow.Fn.Kinds.{Dens, ended_of}
use contract.Lifetimes.{Lfts}
use denote.Triple.Clauses.{AtExit}
use Rattle.meaning.specs.Reading.{rooms_of}
use Rattle.std.proofs.Common.{Ok, Err}
use Rattle.base.proofs.Numbered.{same_reason}
use Rattle.read_text.specs.Outcomes.{Answer, answer_of}
use Rattle.read.specs.Same.{Outcome, Allowed, OutcomesCoincide, SameTable, CallsCoincide}
use Rattle.read.proofs.read.Kinds as kinds
use Rattle.read.proofs.read.Reads as reads

-- an answer is told by its numbers
one_answer : (a b : Answer) → answer_of a ≡ answer_of b → a ≡ b
one_answer (Ok u) (Ok v) e =
    let objects : u.objects ≡ v.objects = cc in
    let cells : u.cells ≡ v.cells = cc in
    let points : u.points ≡ v.points = cc in
    rw (objects, cells, points)
one_answer (Ok u) (Err f) e = cc
one_answer (Err f) (Ok u) e = cc
one_answer (Err f) (Err g) e =
    let reason : f.reason ≡ g.reason = same_reason f.reason g.reason cc in
    let first : f.first ≡ g.first = cc in
    let second : f.second ≡ g.second = cc in
    rw (reason, first, second)

pub calls_coincide : CallsCoincide
calls_coincide model file rooms words words' o p a b = record {
  answers = one_answer o.answer p.answer (a.answer_is ∙ sym b.answer_is);
  texts = a.text_is ∙ sym b.text_is;
  marks_same = a.marks_are ∙ sym b.marks_are;
  rows_same = a.rows_are ∙ sym b.rows_are;
  cells_same = a.cells_are ∙ sym b.cells_are;
  points_same = a.points_are ∙ sym b.points_are;
}

one_outcome : (o p : Outcome) → SameTable o p → o.index ≡ p.index → o ≡ p
one_outcome o p s i = λ j. record {
  answer = s.answers j;
  text = s.texts j;
  marks = s.marks_same j;
  rows = s.rows_same j;
  cells = s.cells_same j;
  points = s.points_same j;
  index = i j;
}

pub outcomes_coincide : OutcomesCoincide
outcomes_coincide model file rooms words o p a b = one_outcome o p (calls_coincide model file rooms words words o p a b) (a.index_is ∙ sym b.index_is)

-- what `read` ensures is this statement, word for word
module _ (κs : Lfts 8) (a : Dens κs kinds.ps) (r : Answer) (s : AtExit (ended_of 8 kinds.ps kinds.r) κs) where
  abbrev pub outcome : Outcome
  outcome = record {
    answer = r;
    text = s.1.1.0.now;
    marks = s.1.1.1.0.now;
    rows = s.1.1.1.1.0.now;
    cells = s.1.1.1.1.1.0.now;
    points = s.1.1.1.1.1.1.0.now;
    index = s.1.1.1.1.1.1.1.0.now;
  }

  pub ensures_allowed : reads.Post κs a r s
      → Allowed a.0.now a.1.0.now (rooms_of a.1.1.0.now a.1.1.1.0.now a.1.1.1.1.0.now a.1.1.1.1.1.0.now a.1.1.1.1.1.1.0.now) (length a.1.1.1.1.1.1.1.0.now) outcome
  ensures_allowed e = record {
    answer_is = e.0;
    text_is = e.1.0;
    marks_are = e.1.1.0;
    rows_are = e.1.1.1.0;
    cells_are = e.1.1.1.1.0;
    points_are = e.1.1.1.1.1.0;
    index_is = e.1.1.1.1.1.1;
  }
