-- The lent buffers while they are filled.
use Rattle.std.specs.Prelude.{◌≡◌, List, length}
use Rattle.std.specs.Borrow.{MutBor}
use Rattle.read_state.specs.declared.Buffers.{Buffers}

-- the same buffer, of the same length, whatever it holds
pub record SameBuffer {X : Type 0} (a b : MutBor (List X)) : Type 0 where
  pub reference : b.ghost_name ≡ a.ghost_name
  pub size : length b.now ≡ length a.now

-- the same buffers
pub record SameBuffers (a b : Buffers) : Type 0 where
  pub marks : SameBuffer a.marks b.marks
  pub rows : SameBuffer a.rows b.rows
  pub cells : SameBuffer a.cells b.cells
  pub points : SameBuffer a.points b.points
  pub index : SameBuffer a.index b.index
  pub seed : b.seed ≡ a.seed
