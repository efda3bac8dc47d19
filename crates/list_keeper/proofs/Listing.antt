-- The entries of a list: the groups that a head tells of it.
use Rattle.std.proofs.Common.{ℕ, ◌↔◌, List, take, Contains}
use Rattle.std.specs.Cmp.{unsigned_Decides}
use Rattle.std.proofs.lemmas.Map.Made.{is_member-Decides}
use Rattle.domain.specs.Told.{Group}
use Rattle.list_keeper.specs.Tells.{tells}
use Rattle.list_keeper.specs.declared.head.Head.{Head}

-- the groups that are told are the entries
pub group_entry : (head : Head) (list : List ℕ) (g : ℕ) → Group (tells head list) g ↔ Contains (take head.count list) g
group_entry head list g =
    let d = is_member-Decides unsigned_Decides (take head.count list) g in (λ t. d.0 t.told, λ c. record { told = d.1 c })
