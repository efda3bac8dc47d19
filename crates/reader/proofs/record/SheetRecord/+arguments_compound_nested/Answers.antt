use Rattle.std.proofs.Common.{arith}
use Rattle.std.proofs.lemmas.Result.{err_from_is_err_and}
use Rattle.reader.proofs.Arguments.{from_end, stop_record, stop_tree}
use Rattle.reader.proofs.record.SheetRecord.+arguments_compound_nested.Goals as goal

pub arguments-returns-in_err-inner : goal.arguments-returns-in_err-inner
arguments-returns-in_err-inner t c =
    let fault = err_from_is_err_and c.from_residual.result c.from_residual.ensures.1 in
    rw (fault.1, fault.2)
    (stop_record _ _ _ _ _ _ _ c.loop-at-test.true c.in_err-inner.ensures.fault c.loop-at.invariant.1)

pub arguments-returns-in_err-nested : goal.arguments-returns-in_err-nested
arguments-returns-in_err-nested t c =
    let inner = c.in_ok-inner.ensures in
    let read = rw inner.same_sheet at c.in_err-nested.ensures in
    let fault = err_from_is_err_and c.from_residual-in_err-nested.result c.from_residual-in_err-nested.ensures.1 in
    rw (fault.1, fault.2)
    (stop_tree _ _ _ _ _ _ _ c.loop-at-test.true inner.frame _ read c.loop-at.invariant.1)

pub arguments-returns : goal.arguments-returns
arguments-returns t c = from_end _ _ _ _ _ _ (omega (arith, c.loop-at.invariant.0)) c.loop-at.invariant.1
