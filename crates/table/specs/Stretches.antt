-- Stretches of the text, as cells name them.
use Rattle.std.specs.Prelude.{ℕ, ◌+◌, ◌≤◌, ◌≡◌, List, length}
use Rattle.meaning.specs.Reading.{stretch}

-- a stretch cut at the end of a text of so many bytes: it names the same bytes
pub record Cut (size start len start' len' : ℕ) : Type 0 where
  pub inside : start' + len' ≤ size
  pub same : (text : List ℕ) → length text ≡ size → stretch text start' len' ≡ stretch text start len
