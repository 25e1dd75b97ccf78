-- The lent buffers stay the same from call to call. Assumes nothing.
use mathlib.Core.Path.{refl, ◌∙◌}
use mathlib.Core.List.{List}
use Rattle.std.specs.Borrow.{MutBor}
use Rattle.read_state.specs.Buffers.{SameBuffer, SameBuffers}
use Rattle.read_state.specs.declared.Buffers.{Buffers}

pub kept : (a : Buffers) → SameBuffers a a
kept a = record {
  marks = record { reference = refl; size = refl };
  rows = record { reference = refl; size = refl };
  cells = record { reference = refl; size = refl };
  points = record { reference = refl; size = refl };
  index = record { reference = refl; size = refl };
  seed = refl;
}

one : {X : Type 0} {a b c : MutBor (List X)} → SameBuffer a b → SameBuffer b c → SameBuffer a c
one s t = record { reference = t.reference ∙ s.reference; size = t.size ∙ s.size }

pub joined : {a b c : Buffers} → SameBuffers a b → SameBuffers b c → SameBuffers a c
joined s t = record {
  marks = one s.marks t.marks;
  rows = one s.rows t.rows;
  cells = one s.cells t.cells;
  points = one s.points t.points;
  index = one s.index t.index;
  seed = t.seed ∙ s.seed;
}
