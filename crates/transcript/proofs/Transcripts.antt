-- The lines of the marks so far.
use Rattle.std.proofs.Common.{◌≡◌, ℕ, List, [], ◌∷◌, ◌++◌, map, sym, ap, ◌∙◌, append_assoc, append-nil, Bor}
use Rattle.transcript.specs.Lines.{mark_line}
use Rattle.transcript.specs.Transcripts.{lines_of}
use Rattle.sheet.specs.declared.mark.StepMark.{StepMark}

pub lines_more : (marks : List (Bor StepMark)) (m : Bor StepMark)
    → lines_of (map (λ b. b.now) (marks ++ m ∷ [])) ≡ lines_of (map (λ b. b.now) marks) ++ mark_line m.now
lines_more [] m = append-nil (mark_line m.now)
lines_more (n ∷ marks) m =
    ap (λ (l : List ℕ). mark_line n.now ++ l) (lines_more marks m)
    ∙ sym (append_assoc (mark_line n.now) (lines_of (map (λ b. b.now) marks)) (mark_line m.now))
