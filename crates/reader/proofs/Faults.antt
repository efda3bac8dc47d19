-- Every fault of the reader is a refusal that the reader can give.
use Rattle.std.proofs.Common.{◌≡◌, ℕ, zero, suc, ◌+◌, ◌-◌, nat_lt, Bool, true, false, if◌then◌else◌, ◌==◌, List, length, Ok, Err, IfErr, Some, None, Option, refl, sym, arith}
use Rattle.domain.specs.declared.refusal.Layer.TheVariants.{Reader}
use Rattle.domain.specs.declared.refusal.Refusal.{Refusal}
use Rattle.domain.specs.declared.refusal.Refusal.TheVariants.{Truncated, Kind, Letter}
use Rattle.domain.specs.Terms.{Tree, none}
use Rattle.keeper.specs.declared.questions.Question.{Question}
use Rattle.keeper.specs.declared.questions.Question.TheVariants.{Ground, Free, Linear, Pair}
use Rattle.sheet.specs.Faults.{CanRefuse, alone, position_read}
use Rattle.sheet.specs.declared.fault.ReaderFault.{ReaderFault}
use Rattle.sheet.specs.Kinds.{step_kind}
use Rattle.sheet.specs.declared.kind.StepKind.{StepKind}
use Rattle.sheet.specs.declared.kind.StepKind.TheVariants.{Open, Bind, Join, Forget, Ask, End}
use Rattle.sheet.specs.declared.steps.Step.{Step}
use Rattle.std.specs.Option.{ok_or}
use Rattle.reader.specs.Heads.{Head, head_at, known}
use Rattle.reader.specs.Payloads.{one_of, two_of, question_by, question_of, open_of, bind_of, join_of, forget_of, ask_of, end_of, payload_of, step_of}
use Rattle.reader.specs.Reading.{Read, ◌>>=◌, fault, refuse}
use Rattle.reader.specs.Records.{byte_at, pair_at, record_at, position_at}
use Rattle.reader.specs.TermKinds.{term_kind}
use Rattle.reader.specs.Trees.{args_by, compound_of, tree_by, term_of}
use Rattle.reader.specs.declared.record.Record.{Record}
use Rattle.reader.specs.declared.record.TheConstants.{HEAD}
use Rattle.reader.specs.declared.term.TheConstants.{DEEPEST}
use Rattle.reader.specs.declared.term.TermKind.{TermKind}
use Rattle.reader.specs.declared.term.TermKind.TheVariants.{Position, Constant, Compound}

pub record Refuses {A : Type 0} (read : Read A) : Type 0 where
  pub told : IfErr read (λ f. CanRefuse Reader f.refusal)

ok : {A : Type 0} (a : A) → Refuses (Ok a)
ok a = record { told = tt }

faulted : {A : Type 0} (e : Refusal) (place : ℕ) → CanRefuse Reader e → Refuses {A = A} (fault e place)
faulted e place can = record { told = can }

tested : {A : Type 0} (b : Bool) (e : Refusal) (place : ℕ) (later : Read A) → CanRefuse Reader e → Refuses later → Refuses (refuse b e place later)
tested true e place later can h = record { told = can }
tested false e place later can h = h

after : {A B : Type 0} (read : Read A) (f : A → Read B) → Refuses read → ((a : A) → Refuses (f a)) → Refuses (read >>= f)
after (Ok a) f h all = all a
after (Err e) f h all = record { told = h.told }

either : {A : Type 0} (b : Bool) (x y : Read A) → Refuses x → Refuses y → Refuses (if b then x else y)
either true x y hx hy = hx
either false x y hx hy = hy

a_record : (bytes : List ℕ) (at end : ℕ) → Refuses (record_at bytes at end)
a_record bytes at end =
    let frame : Record = record { place = at; kind = pair_at bytes (at + 2); start = at + HEAD; end = at + HEAD + pair_at bytes at } in
    let inside : Bool = nat_lt (end - (at + HEAD)) (pair_at bytes at) in
    tested (nat_lt (end - at) HEAD) Truncated at (refuse inside Truncated at (Ok frame)) (alone refl)
    (tested inside Truncated at (Ok frame) (alone refl) (ok frame))

a_position : (bytes : List ℕ) (r : Record) (at : ℕ) → Refuses (position_at bytes r at)
a_position bytes r at = tested _ _ _ _ position_read (ok _)

a_term_by : (bytes : List ℕ) (inner : Record → Read Tree) → ((r : Record) → Refuses (inner r)) → (r : Record) (kind : Option TermKind) → Refuses (tree_by bytes inner r kind)
a_term_by bytes inner all r None = faulted Kind r.place (alone refl)
a_term_by bytes inner all r (Some Position) = tested _ _ _ _ (alone refl) (after _ _ (a_position bytes r r.start) (λ p. ok _))
a_term_by bytes inner all r (Some Constant) = tested _ _ _ _ (alone refl) (ok _)
a_term_by bytes inner all r (Some Compound) = tested _ _ _ _ (alone refl) (all r)

arguments : (bytes : List ℕ) (tree : Record → Read Tree) → ((r : Record) → Refuses (tree r)) → (turns at end : ℕ) → Refuses (args_by bytes tree turns at end)
unfolding args_by
arguments bytes tree all zero at end = ok none
arguments bytes tree all (suc turns) at end =
    either _ _ _ (ok none)
    (after _ _ (a_record bytes at end) (λ r.
    after _ _ (all r) (λ t.
    after _ _ (arguments bytes tree all turns r.end end) (λ ts. ok _))))

a_compound : (bytes : List ℕ) (depth : ℕ) (r : Record) → Refuses (compound_of bytes depth r)
unfolding compound_of
a_compound bytes zero r = faulted _ _ (alone refl)
a_compound bytes (suc depth) r =
    after _ _ (arguments bytes _ (λ x. a_term_by bytes (compound_of bytes depth) (a_compound bytes depth) x (term_kind x.kind)) _ (r.start + 2) r.end) (λ args. ok _)

a_term : (bytes : List ℕ) (r : Record) → Refuses (term_of bytes r)
a_term bytes r = after _ _ (a_term_by bytes (compound_of bytes DEEPEST) (a_compound bytes DEEPEST) r (term_kind r.kind)) (λ t. ok _)

a_letter : (g f l p : Bool) (ground free linear pair other : Read Question) → Refuses ground → Refuses free → Refuses linear → Refuses pair → Refuses other → Refuses (if g then ground else if f then free else if l then linear else if p then pair else other)
a_letter true f l p ground free linear pair other hg hf hl hp hn = hg
a_letter false true l p ground free linear pair other hg hf hl hp hn = hf
a_letter false false true p ground free linear pair other hg hf hl hp hn = hl
a_letter false false false true ground free linear pair other hg hf hl hp hn = hp
a_letter false false false false ground free linear pair other hg hf hl hp hn = hn

one_position : (bytes : List ℕ) (r : Record) (question : ℕ → Question) → Refuses (one_of bytes r >>= λ p. Ok (question p))
one_position bytes r question =
    after _ _ (tested _ _ _ _ (alone refl) (a_position bytes r (r.start + 1))) (λ p. ok (question p))

two_positions : (bytes : List ℕ) (r : Record) → Refuses (two_of bytes r)
two_positions bytes r =
    tested _ _ _ _ (alone refl)
    (after _ _ (a_position bytes r (r.start + 1)) (λ a. after _ _ (a_position bytes r (r.start + 2)) (λ b. ok (a, b))))

a_question_by : (bytes : List ℕ) (r : Record) (letter : ℕ) → Refuses (question_by bytes r letter)
a_question_by bytes r letter =
    a_letter (letter == 103) (letter == 102) (letter == 108) (letter == 112) _ _ _ _ _ (one_position bytes r Ground)
    (one_position bytes r Free) (one_position bytes r Linear)
    (after _ _ (two_positions bytes r) (λ ab. ok (Pair ab.0 ab.1))) (faulted Letter r.place (alone refl))

a_question : (bytes : List ℕ) (r : Record) → Refuses (question_of bytes r)
a_question bytes r = a_question_by bytes r (byte_at bytes r.start)

pub an_open : (bytes : List ℕ) (r : Record) → Refuses (open_of bytes r)
an_open bytes r = tested _ _ _ _ (alone refl) (ok _)

pub a_bind : (bytes : List ℕ) (r : Record) → Refuses (bind_of bytes r)
a_bind bytes r =
    tested _ _ _ _ (alone refl)
    (after _ _ (a_position bytes r r.start) (λ x.
    after _ _ (a_record bytes (r.start + 1) r.end) (λ inner.
    after _ _ (a_term bytes inner) (λ t.
    tested _ _ _ _ (alone refl) (ok _)))))

pub a_join : (bytes : List ℕ) (r : Record) → Refuses (join_of bytes r)
a_join bytes r = tested _ _ _ _ (alone refl) (ok _)

pub a_forget : (bytes : List ℕ) (r : Record) → Refuses (forget_of bytes r)
a_forget bytes r = tested _ _ _ _ (alone refl) (ok _)

pub an_ask : (bytes : List ℕ) (r : Record) → Refuses (ask_of bytes r)
an_ask bytes r = tested _ _ _ _ (alone refl) (after _ _ (a_question bytes r) (λ q. ok _))

pub an_end : (r : Record) → Refuses (end_of r)
an_end r = tested _ _ _ _ (alone refl) (ok _)

payload_refuses : (bytes : List ℕ) (r : Record) (kind : StepKind) → Refuses (payload_of bytes r kind)
payload_refuses bytes r Open = an_open bytes r
payload_refuses bytes r Bind = a_bind bytes r
payload_refuses bytes r Join = a_join bytes r
payload_refuses bytes r Forget = a_forget bytes r
payload_refuses bytes r Ask = an_ask bytes r
payload_refuses bytes r End = an_end r

-- the step of a head
pub a_step : (bytes : List ℕ) (head : Head) → Refuses (step_of bytes head)
a_step bytes head = payload_refuses bytes head.frame head.kind

a_kind : {K : Type 0} (r : Record) (kind : Option K) → Refuses (known r kind)
a_kind r (Some k) = ok k
a_kind r None = faulted Kind r.place (alone refl)

-- the head of a record
pub a_head : (sheet : List ℕ) (at : ℕ) → Refuses (head_at sheet at)
a_head sheet at =
    after _ _ (a_record sheet at (length sheet)) (λ frame.
    after _ _ (a_kind frame (step_kind frame.kind)) (λ kind. ok _))

pub step_refuses : (read whole : Read Step) → read ≡ whole → Refuses whole → IfErr read (λ f. CanRefuse Reader f.refusal)
step_refuses read whole e h = rw e h.told

pub record_refuses : (bytes : List ℕ) (at end : ℕ) (f : ReaderFault) → Err f ≡ record_at bytes at end → CanRefuse Reader f.refusal
record_refuses bytes at end f e = let h = a_record bytes at end in rw (sym e) at h.told

known_refuses : (kind : Option StepKind) (e : Refusal) → Err e ≡ ok_or kind Kind → CanRefuse Reader e
known_refuses (Some k) e is = absurd (let z : ◌≡◌ {A = ℕ} 0 1 = cc in omega arith)
known_refuses None e is = let same : e ≡ Kind = cc in rw same (alone refl)

pub kind_refuses : (number : ℕ) (e : Refusal) → Err e ≡ ok_or (step_kind number) Kind → CanRefuse Reader e
kind_refuses number e = known_refuses (step_kind number) e
