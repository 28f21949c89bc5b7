-- Known settings: what is picked and judged in some small lines.
use Rattle.std.specs.Prelude.{ℕ, [], ◌∷◌, Some, None}
use Rattle.words.specs.declared.tag.Tag.{Tag}
use Rattle.words.specs.Tags.{Before}
use Rattle.quorums.specs.Families.{MajorityOf, TableOf, Tight}
use Rattle.quorums.specs.Sets.{Picked}
use Rattle.views.specs.Views.{Judged}
use Rattle.views.specs.declared.Verdict.TheVariants.{OneTrip, SecondTrip}

-- sets by their numbers: {0,1} is 3, {0,2} 5, {0,1,2} 7, {0,1,3} 11, {2,3} 12, {0,1,3,4} 27
pub record KnownSettings : Type 0 where
  -- majority of 5
  pub picks : Picked (MajorityOf 5) 27 (Some 11)
  pub picks_none : Picked (MajorityOf 5) 3 None
  -- a table of two sets that share nothing is loose, whatever the number of cabinets
  pub loose : (n : ℕ) → Tight n (3 ∷ 12 ∷ []) → ⊥
  -- majority of 4, the quorum {0,1,2}; tags T2, T1, T1, and T3, T2, T1
  pub two_agree : (t1 t2 : Tag) → Before t1 t2 → Judged (t2 ∷ t1 ∷ t1 ∷ []) 7 (MajorityOf 4) (OneTrip t1) 1
  pub all_differ : (t1 t2 t3 : Tag) → Before t1 t2 → Before t2 t3 → Judged (t3 ∷ t2 ∷ t1 ∷ []) 7 (MajorityOf 4) (SecondTrip t3) 1
  -- a table of {0,1} and {0,2}, the quorum {0,1}; tags T1, T2, and T2, T1
  pub shared_earlier : (t1 t2 : Tag) → Before t1 t2 → Judged (t1 ∷ t2 ∷ []) 3 (TableOf (3 ∷ 5 ∷ [])) (OneTrip t1) 1
  pub shared_later : (t1 t2 : Tag) → Before t1 t2 → Judged (t2 ∷ t1 ∷ []) 3 (TableOf (3 ∷ 5 ∷ [])) (SecondTrip t2) 0
