-- The order of tags is one row, and comparing tags goes by it.
use Rattle.std.proofs.Common.{◌≡◌, ◌⊎◌, true, false, inl, inr, ⊎_elim, arith, rules}
use Rattle.std.proofs.lemmas.Bool.{cases_lt, cases_order}
use Rattle.std.proofs.lemmas.Grind.{common_steps}
use Rattle.std.specs.Ordering.{is_lt}
use Rattle.words.specs.Tags.{Before, TagOrder, Upto}
use Rattle.words.specs.declared.tag.Tag.{Tag}
use Rattle.words.specs.contracts.tag.TagOrd.TheImpl as ord

either : (a b : Tag) → Before a b ⊎ Upto b a
either a b =
    ⊎_elim
    (λ same. ⊎_elim (λ l. inl (omega arith, λ _. l)) (λ l. inr (omega arith, λ _. l)) (cases_lt a.owner b.owner))
    (⊎_elim (λ l. inl (omega arith, λ e. absurd (omega arith))) (λ l. inr (omega arith, λ e. absurd (omega arith))))
    (cases_order a.count b.count)

pub tag_order : TagOrder
tag_order = record {
  either = either;
  not_both = λ a b p q. grind arith;
  through = λ a b c p q. (omega arith, λ e. omega arith);
  before_through = λ a b c p q. (omega arith, λ e. omega arith);
  through_before = λ a b c p q. (omega arith, λ e. omega arith);
  same = λ a b p q.
      let count : a.count ≡ b.count = omega arith in
      let owner : a.owner ≡ b.owner = omega arith in
      λ i. record { count = count i; owner = owner i };
}

pub upto_refl : (t : Tag) → Upto t t
upto_refl t = (omega arith, λ e. omega arith)

pub before_upto : (a b : Tag) → Before a b → Upto a b
before_upto a b h = (h.0, λ e. omega (arith, h.1 e))

-- what comparing tags says
pub less_before : (a b : Tag) → is_lt (ord.cmp-value.it a b) ≡ true → Before a b
less_before a b e = search rules

pub not_less_upto : (a b : Tag) → is_lt (ord.cmp-value.it a b) ≡ false → Upto b a
not_less_upto a b e = grind (arith, common_steps)
