use Rattle.console.proofs.Serving.{fails, done}
use Rattle.console.proofs.run_between.Goals as goal

pub returns-in_err-text-clause-served : goal.returns-in_err-text-clause-served
returns-in_err-text-clause-served g c =
    fails _ _ _ _ _ _ _ _ c.as_slice.ensures.value c.in_ok-bytes.ensures _ _ c.from_residual-in_err-text.ensures.0 c.run_sheet.ensures.prints

pub returns-in_err-write_all-clause-served : goal.returns-in_err-write_all-clause-served
returns-in_err-write_all-clause-served g c =
    fails _ _ _ _ _ _ _ _ c.as_slice.ensures.value c.in_ok-bytes.ensures _ _ c.from_residual-in_err-write_all.ensures.0 c.run_sheet.ensures.prints

pub returns-clause-served : goal.returns-clause-served
returns-clause-served g c =
    done _ _ _ _ _ _ _ _ c.as_slice.ensures.value c.in_ok-bytes.ensures _ _ c.as_bytes.ensures.value c.in_ok-text.ensures.prints c.in_ok-write_all.ensures.bytes
