use Rattle.std.proofs.Common.{refl, inl, inr}
use Rattle.std.proofs.lemmas.Bool.Decides.{not_from_Decides}
use Rattle.domain.specs.Tables.{is_group}
use Rattle.rules.proofs.Cases.{decides_rest, not_new, decides_passes}
use Rattle.rules.proofs.groups.Groups.becomes_group.Goals as goal

pub returns-in-false-false : goal.returns-in-false-false
returns-in-false-false c =
    decides_rest _ _ _ _ _ _ (not_from_Decides _ c.in-false-false.ensures refl)
    (not_from_Decides _ c.in-false-false.ensures' refl)
    (decides_passes (is_group c.args.self.positions c.args.self.table.now) c.args.u c.is_group.result c.is_group.ensures)

pub returns-in_default : goal.returns-in_default
returns-in_default c =
    not_new _ _ _ _ _ (λ i. not_from_Decides _ c.in_default.ensures' refl) (inl (c.in_default.ensures.0 refl))

pub returns-in_default-2 : goal.returns-in_default-2
returns-in_default-2 c =
    not_new _ _ _ _ _ (λ i m. not_from_Decides _ c.in_default.ensures refl i) (inr (c.in_default.ensures'.0 refl))
