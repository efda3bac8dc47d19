use Rattle.std.proofs.Common.{◌≡◌, map, string_bytes}
use Rattle.transcript.specs.Transcripts.{lines_of}
use Rattle.transcript.proofs.mark_lines.Given as goal

abbrev pub invariant-loop-mark : goal.invariant-loop-mark
invariant-loop-mark l = string_bytes l.text ≡ lines_of (map (λ b. b.now) l.yielded)
