-- The line of a refusal by what can be continued: over `Right` alone, without a word of how lines are read. The field
-- is said by `Reason` alone. Proved in proofs/Right/ViableClaims.antt.
use Rattle.std.specs.Prelude.{ℕ, ◌+◌, ◌-◌, ◌≤◌, ◌≡◌, true, List, [], ◌∷◌, ◌++◌, length, take}
use Rattle.meaning.specs.Cut.{Permitted}
use Rattle.meaning.specs.Model.{Model}
use Rattle.meaning.specs.Answer.{refusal}
use Rattle.meaning.specs.Reading.{Rooms}
use Rattle.meaning.specs.Table.{read}
use Rattle.meaning.specs.Right.{DeliveredTopic, objects_of_topics, with_starts, File, Unique}
use Rattle.meaning.specs.RightClaims.{Opened}
use Rattle.meaning.specs.RoomClaims.{is_one_of}

-- lines that are right, references aside
pub record RightAside (m : Model) (ls : List (List ℕ)) : Type 0 where
  pub delivered : List DeliveredTopic
  pub file : File m (with_starts 0 ls) delivered
  pub unique : Unique (objects_of_topics delivered)

-- lines that can be continued to such, by lines of permitted bytes
pub record Viable (m : Model) (ls : List (List ℕ)) : Type 0 where
  pub others : List (List ℕ)
  pub permitted : Permitted others
  pub right : RightAside m (ls ++ others)

-- lines that cannot be continued to such by any lines
abbrev pub Lost : Model → List (List ℕ) → Type 0
Lost m ls = (others : List (List ℕ)) → RightAside m (ls ++ others) → ⊥

-- a refusal of a line stands at the first one up to which the lines can no longer be continued: those before it can,
-- and with it they cannot; where no line is left, all lines can be continued and are not yet right
pub record StandsFirst (m : Model) (ls : List (List ℕ)) (line : ℕ) : Type 0 where
  pub number : 1 ≤ line
  pub before : Viable m (take (line - 1) ls)
  pub with : line ≤ length ls → Lost m (take line ls)
  pub past : line ≤ length ls + 1
  pub all : RightAside m ls → ⊥

-- the line of a refusal 7 to 15 or 18 is the first such line
abbrev pub PlaceIsFirst : Type 0
PlaceIsFirst =
    (model file : List ℕ) (m : Model) (ls : List (List ℕ)) (rooms : Rooms) (number line field : ℕ)
    → Opened model file m ls → (read model file rooms).answer ≡ refusal number line field
    → is_one_of number (7 ∷ 8 ∷ 9 ∷ 10 ∷ 11 ∷ 12 ∷ 13 ∷ 14 ∷ 15 ∷ 18 ∷ []) ≡ true → StandsFirst m ls line
