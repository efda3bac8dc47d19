use Rattle.console.proofs.Serving.{all_read}
use Rattle.console.proofs.read_sheet.Goals as goal

pub returns : goal.returns
returns g c =
    all_read g.R.Read.remaining c.take.result c.args.reader _ c.read_to_end.new.buf.items c.take.ensures.limit c.take.ensures.inner c.new-bytes.ensures.items c.in_ok-read_to_end.ensures.bytes
