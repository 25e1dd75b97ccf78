-- Reasons and their numbers. Assumes nothing.
use Prim.Native.Nat.{ℕ, ◌-◌}
use mathlib.Core.Path.{◌≡◌, refl, sym, ap, ◌∙◌}
use mathlib.Core.List.{List, [], ◌∷◌}
use lib.ListN.{get_or}
use Rattle.base.specs.declared.reasons.Reason.{Reason}
use Rattle.base.specs.declared.reasons.Reason.TheVariants.{
  FileTooLong,
  ModelBad,
  EndMissing,
  ByteNotPermitted,
  ContinuationMissing,
  RoomTooSmall,
  OtherCode,
  MotrForMtid,
  NameWrong,
  TableSkipped,
  FieldCount,
  UndefinedField,
  WrongShape,
  OutsideDomain,
  IdentificationTwice,
  TableFull,
  ObjectMissing,
  FormForbidden,
  NoSuchLines,
  WidthWrong,
  OutputTooSmall,
}
use Rattle.base.specs.Reasons.{number_of}

-- the reasons by their numbers
reasons : List Reason
reasons =
    FileTooLong ∷ ModelBad ∷ EndMissing ∷ ByteNotPermitted ∷ ContinuationMissing ∷ RoomTooSmall ∷ OtherCode ∷ MotrForMtid
    ∷ NameWrong ∷ TableSkipped ∷ FieldCount ∷ UndefinedField ∷ WrongShape ∷ OutsideDomain ∷ IdentificationTwice ∷ TableFull
    ∷ ObjectMissing ∷ FormForbidden ∷ NoSuchLines ∷ WidthWrong ∷ OutputTooSmall ∷ []

reason_at : (r : Reason) → get_or reasons (number_of r - 1) FileTooLong ≡ r
unfolding reasons
reason_at FileTooLong = refl
reason_at ModelBad = refl
reason_at EndMissing = refl
reason_at ByteNotPermitted = refl
reason_at ContinuationMissing = refl
reason_at RoomTooSmall = refl
reason_at OtherCode = refl
reason_at MotrForMtid = refl
reason_at NameWrong = refl
reason_at TableSkipped = refl
reason_at FieldCount = refl
reason_at UndefinedField = refl
reason_at WrongShape = refl
reason_at OutsideDomain = refl
reason_at IdentificationTwice = refl
reason_at TableFull = refl
reason_at ObjectMissing = refl
reason_at FormForbidden = refl
reason_at NoSuchLines = refl
reason_at WidthWrong = refl
reason_at OutputTooSmall = refl

-- a reason is told by its number
pub same_reason : (a b : Reason) → number_of a ≡ number_of b → a ≡ b
same_reason a b e = sym (reason_at a) ∙ ap (λ (n : ℕ). get_or reasons (n - 1) FileTooLong) e ∙ reason_at b
