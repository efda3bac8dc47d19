-- From what is read and what is printed to what is served.
use Rattle.std.proofs.Common.{◌≡◌, ℕ, ◌+◌, List, [], ◌++◌, IfSome, OnOk, is_err, true, sym, true≢false, Some, None, Option, Ok, Err, Result, take}
use Rattle.std.specs.Option.{option_map}
use Rattle.std.specs.Io.KnownBytes.{Appends}
use Rattle.std.specs.Io.Take.{take_remaining}
use Rattle.std.specs.declared.io.traits.Take.{Take}
use Rattle.domain.specs.Told.{Told}
use Rattle.console.specs.Printing.{IsInput, Prints, Served, read}
use Rattle.sheet.specs.declared.steps.TheConstants.{LONGEST_SHEET}

taken : (known : Option (List ℕ)) (bytes : List ℕ) → IfSome (option_map (take (LONGEST_SHEET + 1)) known) (λ xs. bytes ≡ xs) → IsInput known bytes
taken (Some xs) bytes h = h
taken None bytes h = tt

pub all_read : {R : Type 0} (remaining : R → Option (List ℕ)) (t : Take R) (reader : R) (old new : List ℕ) → t.limit ≡ LONGEST_SHEET + 1 → t.inner ≡ reader → old ≡ [] → IfSome (take_remaining remaining t) (λ xs. new ≡ old ++ xs) → IsInput (remaining reader) new
all_read remaining t reader old new limit inner empty h = taken (remaining reader) new (rw (limit, inner, empty) at h)

failed : {E : Type 0} (result : Result (Unit {0}) E) (P : Type 0) → is_err result ≡ true → OnOk result P
failed (Ok u) P h = absurd (true≢false (sym h))
failed (Err e) P h = tt

module _ {E : Type 0} (capacity : ℕ) (sheet items : List ℕ) (before after : Told) (input output output' : Option (List ℕ)) (same : sheet ≡ items) (is : IsInput input items) where
  pub fails : (result : Result (Unit {0}) E) (Says : List ℕ → Type 0) → is_err result ≡ true → Prints capacity sheet before after Says → Served capacity before after input output output' result
  fails result Says h p =
      read sheet (rw same is)
      (record {
        marks = p.marks;
        marks' = p.marks';
        outcome = p.outcome;
        room = p.room;
        ran = p.ran;
        says = failed result _ h;
      })

  pub done : (bytes written : List ℕ) → written ≡ bytes → Prints capacity sheet before after (λ text. bytes ≡ text) → Appends output output' written → Served {E = E} capacity before after input output output' (Ok tt)
  done bytes written all p appended =
      read sheet (rw same is)
      (record {
        marks = p.marks;
        marks' = p.marks';
        outcome = p.outcome;
        room = p.room;
        ran = p.ran;
        says = rw (all, p.says) at appended;
      })
