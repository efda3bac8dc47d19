-- The loop over a compound's terms: what is still to be read, gathered onto what has been read.
use Rattle.std.proofs.Common.{◌≡◌, ℕ, zero, suc, ◌-◌, ◌<◌, ◌≤◌, false, eqb, List, Ok, Err, sym, refl, ap, ◌∙◌, arith}
use Rattle.std.proofs.lemmas.Bool.{ne_eqb, eq-eqb}
use Rattle.domain.specs.declared.term.Term.{Term}
use Rattle.sheet.specs.declared.fault.ReaderFault.{ReaderFault}
use Rattle.reader.specs.declared.record.Record.{Record}
use Rattle.domain.specs.declared.refusal.Refusal.TheVariants.{Depth}
use Rattle.reader.specs.Reading.{Read, ◌>>=◌, fault}
use Rattle.reader.specs.Records.{record_at}
use Rattle.domain.specs.Terms.{Tree, Args, compound, none, more, summary, constant_term, beside}
use Rattle.reader.specs.Trees.{args_by, args_of, compound_of, tree_of, sum_of, onto}

-- what the terms from a place on make of what is gathered so far is the whole
pub record From (bytes : List ℕ) (tree : Record → Read Tree) (all : Term) (at end : ℕ) (whole : Read Term) : Type 0 where
  pub turns : ℕ
  pub enough : end - at ≤ turns
  pub gathers : onto all (args_by bytes tree turns at end) ≡ whole

onto_more : (t : Tree) (all : Term) (read : Read Args) → onto all (read >>= λ ts. Ok (more t ts)) ≡ onto (beside all (summary t)) read
onto_more t all (Ok ts) = refl
onto_more t all (Err e) = refl

onto_compound : (f : ℕ) (read : Read Args) → onto constant_term read ≡ sum_of (read >>= λ args. Ok (compound f args))
onto_compound f (Ok args) = refl
onto_compound f (Err e) = refl

pub deeper : (bytes : List ℕ) (depth : ℕ) (r : Record) → 0 < depth → onto constant_term (args_of bytes (tree_of bytes (depth - 1)) r) ≡ sum_of (compound_of bytes depth r)
unfolding compound_of
deeper bytes zero r h = absurd (omega arith)
deeper bytes (suc depth) r h =
    let less : suc depth - 1 ≡ depth = omega arith in rw less (onto_compound _ (args_of bytes (tree_of bytes depth) r))

pub too_deep : (bytes : List ℕ) (depth : ℕ) (r : Record) → depth ≡ 0 → compound_of bytes depth r ≡ fault Depth r.place
unfolding compound_of
too_deep bytes zero r e = refl
too_deep bytes (suc depth) r e = absurd (omega arith)

module _ (bytes : List ℕ) (tree : Record → Read Tree) where
  abbrev after_tree : ℕ → ℕ → ℕ → Read Tree → Read Args
  after_tree turns next end read = read >>= λ t. args_by bytes tree turns next end >>= λ ts. Ok (more t ts)

  abbrev after_record : ℕ → ℕ → Read Record → Read Args
  after_record turns end read = read >>= λ r. after_tree turns r.end end (tree r)

  args_done : (turns end : ℕ) → args_by bytes tree turns end end ≡ Ok none
  unfolding args_by
  args_done zero end = refl
  args_done (suc turns) end = rw (eq-eqb end end refl, args_by) refl

  args_turn : (turns at end : ℕ) → at < end → args_by bytes tree (suc turns) at end ≡ after_record turns end (record_at bytes at end)
  unfolding args_by
  args_turn turns at end h = let e : eqb at end ≡ false = ne_eqb at end (omega arith) in rw (e, args_by) refl

  module _ (all : Term) (at end : ℕ) (whole : Read Term) where
    pub from_end : at ≡ end → From bytes tree all at end whole → Ok all ≡ whole
    from_end e from = sym (ap (onto all) (args_done from.turns end)) ∙ (rw e at from.gathers)

    turned_by : at < end → (turns : ℕ) → end - at ≤ turns → onto all (args_by bytes tree turns at end) ≡ whole → (turns : ℕ) × (end - at ≤ suc turns) × (onto all (after_record turns end (record_at bytes at end)) ≡ whole)
    turned_by lt zero enough h = absurd (omega arith)
    turned_by lt (suc turns) enough h = (turns, enough, rw (args_turn turns at end lt) at h)

    turned : at < end → From bytes tree all at end whole → (turns : ℕ) × (end - at ≤ suc turns) × (onto all (after_record turns end (record_at bytes at end)) ≡ whole)
    turned lt from = turned_by lt from.turns from.enough from.gathers

    pub stop_record : (e : ReaderFault) → at < end → Err e ≡ record_at bytes at end → From bytes tree all at end whole → Err e ≡ whole
    stop_record e lt is from = let k = turned lt from in ap (λ x. onto all (after_record k.0 end x)) is ∙ k.2

    module _ (r : Record) (lt : at < end) (is : Ok r ≡ record_at bytes at end) where
      at_tree : From bytes tree all at end whole → (turns : ℕ) × (end - at ≤ suc turns) × (onto all (after_tree turns r.end end (tree r)) ≡ whole)
      at_tree from =
          let k = turned lt from in
          (k.0, k.1, ap (λ x. onto all (after_record k.0 end x)) is ∙ k.2)

      stop_at : (e : ReaderFault) (read : Read Tree) → tree r ≡ read → Err e ≡ sum_of read → From bytes tree all at end whole → Err e ≡ whole
      stop_at e (Ok t) same is from = absurd (let z : ◌≡◌ {A = ℕ} 0 1 = cc in omega arith)
      stop_at e (Err d) same is from =
          let k = at_tree from in is ∙ sym (ap (λ x. onto all (after_tree k.0 r.end end x)) same) ∙ k.2

      pub stop_tree : (e : ReaderFault) → Err e ≡ sum_of (tree r) → From bytes tree all at end whole → Err e ≡ whole
      stop_tree e = stop_at e (tree r) refl

      next_at : (u : Term) (read : Read Tree) → tree r ≡ read → Ok u ≡ sum_of read → at < r.end → From bytes tree all at end whole → From bytes tree (beside all u) r.end end whole
      next_at u (Ok t) same is further from =
          let k = at_tree from in
          let v : summary t ≡ u = cc in
          record {
            turns = k.0;
            enough = omega arith;
            gathers =
                ap (λ x. onto (beside all x) (args_by bytes tree k.0 r.end end)) (sym v)
                ∙ sym (onto_more t all (args_by bytes tree k.0 r.end end))
                ∙ sym (ap (λ x. onto all (after_tree k.0 r.end end x)) same)
                ∙ k.2;
          }
      next_at u (Err d) same is further from = absurd (let z : ◌≡◌ {A = ℕ} 0 1 = cc in omega arith)

      pub next_from : (u : Term) → Ok u ≡ sum_of (tree r) → at < r.end → From bytes tree all at end whole → From bytes tree (beside all u) r.end end whole
      next_from u = next_at u (tree r) refl
