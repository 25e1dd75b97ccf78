-- `read::read_into` meets its contract. Assumes nothing.
use mathlib.Core.Path.{subst}
use native.Mathlib.Omega.{arith}
use Rattle.std.proofs.lemmas.Result.{err_from_is_err_and}
use Rattle.meaning.specs.Table.{Result}
use Rattle.meaning.specs.Reading.{rooms_of}
use Rattle.model_records.specs.Records.{model_at}
use Rattle.model_check.specs.Walk.{checked_meant}
use Rattle.model_check.proofs.Found.{found_good, found_bad}
use Rattle.read_text.specs.Outcomes.{ReadInto}
use Rattle.read_state.proofs.Same.{kept}
use Rattle.read.proofs.Files.{too_long, under_bad, under_good}
use Rattle.read.proofs.read_into.Goals as goal

pub returns-then-file-gt16777216 : goal.returns-then-file-gt16777216
returns-then-file-gt16777216 c =
    let a = c.args in
    record {
      read = too_long a.model.now a.file.now _ (omega (arith, c.if-file-gt16777216.true));
      fits = tt;
      same = kept a.buffers.now;
    }

pub returns-in_err-check-clause-read : goal.returns-in_err-check-clause-read
unfolding checked_meant
returns-in_err-check-clause-read c =
    let a = c.args in
    let p = err_from_is_err_and c.from_residual.result c.from_residual.ensures.1 in
    rw (p.1, p.2) (under_bad a.model.now a.file.now _ (omega (arith, c.if-file-gt16777216.false)) _ (found_bad a.model.now _ c.in_err-check.ensures))

pub read_good-requires : goal.read_good-requires
unfolding checked_meant
read_good-requires c =
    record {
      model_value = found_good c.args.model.now _ c.in_ok-check.ensures;
      file_len_bound = omega (arith, c.if-file-gt16777216.false);
    }

pub returns : goal.returns
unfolding checked_meant
returns c =
    let a = c.args in
    let b = a.model.now in
    let r = c.read_good in
    let x = r.new.buffers in
    let rooms = rooms_of a.text.now a.buffers.now.marks.now a.buffers.now.rows.now a.buffers.now.cells.now a.buffers.now.points.now in
    record {
      read = subst (λ (o : Result). ReadInto o rooms r.new.text x.marks.now x.rows.now x.cells.now x.points.now r.result)
          (under_good b a.file.now rooms (omega (arith, c.if-file-gt16777216.false)) (model_at b) (found_good b _ c.in_ok-check.ensures)) r.ensures.read;
      fits = r.ensures.fits;
      same = r.ensures.same;
    }
