-- The claims of specs/ModelClaims.antt. Assumes nothing.
use Rattle.meaning.specs.ModelClaims.{CheckedGood, GoodExactly, GoodPasses, GoodBytes, GoodMark, BadExactly, RecordsSay}
use Rattle.meaning.proofs.Model.Marks as marks
use Rattle.meaning.proofs.Model.GoodModels as models
use Rattle.meaning.proofs.Model.Encoding as encoding
use Rattle.meaning.proofs.Model.GoodBytes as bytes
use Rattle.meaning.proofs.Model.FirstBad as first-bad
use Rattle.meaning.proofs.Model.Decoding as decoding

pub checked_good : CheckedGood
checked_good model m h = models.checked_good model m h

pub good_exactly : GoodExactly
good_exactly b m bytes = (decoding.checked_model b m bytes, encoding.model_checked b m)

pub good_passes : GoodPasses
good_passes m g l = encoding.good_passes m g l

pub good_bytes : GoodBytes
good_bytes m g s = bytes.good_bytes m g s

pub good_mark : GoodMark
good_mark model m h = marks.good_mark model m h

pub bad_exactly : BadExactly
bad_exactly b at bytes = first-bad.bad_exactly b at bytes

pub records_say : RecordsSay
records_say b seen m bytes k e = decoding.records_say b seen m bytes k e
