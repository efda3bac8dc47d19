use Rattle.std.proofs.Common.{◌≡◌, take, sym, subst}
use Rattle.std.proofs.lemmas.Option.{MatchOption-at_some}
use Rattle.std.specs.Array.{IsFirstChunk}
use Rattle.domain.specs.Told.{Told, Lawful}
use Rattle.domain.specs.declared.limits.TheConstants.{TABLE_BYTES}
use Rattle.rules.proofs.Laying.{told_taken}
use Rattle.description.proofs.change.taken.Goals as goal

pub invariant_of-result : goal.invariant_of-result
invariant_of-result c =
    let law = c.requires.lawful in
    let front : c.unwrap.result.now ≡ take TABLE_BYTES c.args.scratch.now = (MatchOption-at_some _ (λ y. IsFirstChunk c.args.scratch.now y.now TABLE_BYTES) c.unwrap.result c.unwrap.ensures c.first_chunk.ensures.cases).same in
    record { lawful = rw front (subst (λ (d : Told). Lawful d) (sym (told_taken c.args.outline c.args.scratch.now law.few_positions)) law) }

pub returns : goal.returns
returns c =
    let front : c.unwrap.result.now ≡ take TABLE_BYTES c.args.scratch.now = (MatchOption-at_some _ (λ y. IsFirstChunk c.args.scratch.now y.now TABLE_BYTES) c.unwrap.result c.unwrap.ensures c.first_chunk.ensures.cases).same in
    rw front (told_taken c.args.outline c.args.scratch.now c.requires.lawful.few_positions)
