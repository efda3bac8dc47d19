-- The worked examples, one to a row.
use Rattle.std.specs.Prelude.{ℕ, List, [], ◌∷◌, Some, None}
use Rattle.agreement.specs.Sessions.{Call, Answer, accepted, refused}
use Rattle.agreement.specs.declared.call.KeeperCall.TheVariants.{Change}
use Rattle.domain.specs.Terms.{bare_term, constant_term, over_term}
use Rattle.domain.specs.declared.change.Change as domain
use Rattle.domain.specs.declared.change.Change.TheVariants.{Bind, Join, Forget}
use Rattle.domain.specs.declared.limits.TheConstants.{TABLE_BYTES}
use Rattle.domain.specs.declared.refusal.Refusal.TheVariants.{Capacity}
use Rattle.domain.specs.declared.term.Term.{Term}
use Rattle.worked.specs.Rows.{Row}

-- ---- calls, each with as much scratch as it needs

abbrev pub change_by : domain.Change (List ℕ) → Call
change_by c = record { call = Change c; scratch = TABLE_BYTES; room = 0 }

abbrev pub bind_to : ℕ → Term → Call
bind_to x t = change_by (Bind x t)

abbrev pub join_with : (free linear : ℕ) → List ℕ → Call
join_with free linear groups = change_by (Join (record { marks = record { free = free; linear = linear }; groups = groups }))

abbrev pub forget_all : ℕ → Call
forget_all m = change_by (Forget m)

-- ---- rows

abbrev pub all_accepted : List Call → List Answer
all_accepted [] = []
all_accepted (c ∷ cs) = accepted ∷ all_accepted cs

-- n positions; with room for the largest core on the way, every call is accepted
abbrev pub row : (n room : ℕ) → List Call → (groups core : List ℕ) → (free linear : ℕ) → Row
row n room calls groups core free linear =
    record {
      n = n;
      least = room;
      most = None;
      calls = calls;
      answers = all_accepted calls;
      groups = groups;
      core = core;
      marks = record { free = free; linear = linear };
    }

-- with exactly so much room, and these answers
abbrev pub in_room : ℕ → List Answer → Row → Row
in_room room answers r =
    record {
      n = r.n;
      least = room;
      most = Some room;
      calls = r.calls;
      answers = answers;
      groups = r.groups;
      core = r.core;
      marks = r.marks;
    }

-- 0 bound to f(1, 2, 3), then to f(4, 4)
abbrev pub five_binds : List Call
five_binds = bind_to 0 (over_term 14 0) ∷ bind_to 0 (over_term 16 16) ∷ []

abbrev pub five : Row
five = row 5 6 five_binds (19 ∷ 21 ∷ 23 ∷ 25 ∷ 27 ∷ 29 ∷ 31 ∷ []) (19 ∷ 21 ∷ 23 ∷ 25 ∷ 27 ∷ 29 ∷ []) 0 16

abbrev pub table : List Row
table =
    row 2 2 [] (1 ∷ 2 ∷ []) (1 ∷ 2 ∷ []) 3 3
    -- 0 bound to a position, to f(1, 2), to f(1, 1), to a constant
    ∷ row 2 2 (bind_to 0 (bare_term 1) ∷ []) (3 ∷ []) (3 ∷ []) 3 3
    ∷ row 3 3 (bind_to 0 (over_term 6 0) ∷ []) (3 ∷ 5 ∷ []) (3 ∷ 5 ∷ []) 6 7
    ∷ row 2 2 (bind_to 0 (over_term 2 2) ∷ []) (3 ∷ []) (3 ∷ []) 2 2
    ∷ row 2 2 (bind_to 0 constant_term ∷ []) (2 ∷ []) (2 ∷ []) 2 3
    -- what is bound to a ground position turns ground with it
    ∷ row 2 2 (bind_to 0 (bare_term 1) ∷ bind_to 1 constant_term ∷ []) [] [] 0 3
    ∷ row 2 2 (bind_to 0 (over_term 2 2) ∷ bind_to 0 constant_term ∷ []) [] [] 0 3
    -- 2 bound to f(0, 1), where 0 and 1 share
    ∷ row 3 3 (bind_to 0 (bare_term 1) ∷ bind_to 2 (over_term 3 0) ∷ []) (7 ∷ []) (7 ∷ []) 3 3
    -- 0 bound to f(1, 3, 4), 2 to position 1, then 0 to f(1, 2), where 1 and 2 share
    ∷ row 5 5 (bind_to 0 (over_term 26 0) ∷ bind_to 2 (bare_term 1) ∷ bind_to 0 (over_term 6 0) ∷ [])
    (7 ∷ 15 ∷ 23 ∷ 31 ∷ []) (7 ∷ 15 ∷ 23 ∷ 31 ∷ []) 0 0
    -- six core groups fit six places, and not five, where the second bind is refused; with less, the open is
    ∷ five
    ∷ in_room 5 (accepted ∷ refused Capacity ∷ [])
    (row 5 5 five_binds (3 ∷ 5 ∷ 9 ∷ 16 ∷ []) (3 ∷ 5 ∷ 9 ∷ 16 ∷ []) 30 31)
    -- 0 bound to f(1, 2, 6), 3 to f(4, 6, 5), then 0 to position 3
    ∷ row 7 9 (bind_to 0 (over_term 70 0) ∷ bind_to 3 (over_term 112 0) ∷ bind_to 0 (bare_term 3) ∷ [])
    (27 ∷ 29 ∷ 43 ∷ 45 ∷ 73 ∷ 75 ∷ 77 ∷ 89 ∷ 91 ∷ 93 ∷ 105 ∷ 107 ∷ 109 ∷ [])
    (27 ∷ 29 ∷ 43 ∷ 45 ∷ 73 ∷ 75 ∷ 77 ∷ 89 ∷ 105 ∷ []) 0 54
    -- 0 bound to f(1, 2), then to f(0, 3), which holds it
    ∷ row 4 5 (bind_to 0 (over_term 6 0) ∷ bind_to 0 (over_term 9 0) ∷ [])
    (3 ∷ 5 ∷ 7 ∷ 11 ∷ 13 ∷ 15 ∷ []) (3 ∷ 5 ∷ 7 ∷ 11 ∷ 13 ∷ []) 0 8
    -- a join and a forget, after 0 was bound to position 1
    ∷ row 2 3 (bind_to 0 (bare_term 1) ∷ join_with 3 3 (1 ∷ 2 ∷ []) ∷ []) (1 ∷ 2 ∷ 3 ∷ []) (1 ∷ 2 ∷ 3 ∷ []) 3 3
    ∷ row 2 2 (bind_to 0 (bare_term 1) ∷ forget_all 1 ∷ []) (1 ∷ 2 ∷ []) (1 ∷ 2 ∷ []) 3 3
    ∷ []
