-- The refusals by their numbers in 01.
use Rattle.std.specs.Prelude.{ℕ}
use Rattle.base.specs.declared.reasons.Reason.{Reason}
use Rattle.base.specs.declared.reasons.Reason.TheVariants.{
  FileTooLong,
  ModelBad,
  EndMissing,
  ByteNotPermitted,
  ContinuationMissing,
  RoomTooSmall,
  OtherCode,
  MotrForMtid,
  NameWrong,
  TableSkipped,
  FieldCount,
  UndefinedField,
  WrongShape,
  OutsideDomain,
  IdentificationTwice,
  TableFull,
  ObjectMissing,
  FormForbidden,
  NoSuchLines,
  WidthWrong,
  OutputTooSmall,
}

-- "Refusal numbers"
abbrev pub number_of : Reason → ℕ
number_of FileTooLong = 1
number_of ModelBad = 2
number_of EndMissing = 3
number_of ByteNotPermitted = 4
number_of ContinuationMissing = 5
number_of RoomTooSmall = 6
number_of OtherCode = 7
number_of MotrForMtid = 8
number_of NameWrong = 9
number_of TableSkipped = 10
number_of FieldCount = 11
number_of UndefinedField = 12
number_of WrongShape = 13
number_of OutsideDomain = 14
number_of IdentificationTwice = 15
number_of TableFull = 16
number_of ObjectMissing = 17
number_of FormForbidden = 18
number_of NoSuchLines = 19
number_of WidthWrong = 20
number_of OutputTooSmall = 21
