-- Queries one after another: how they may be grouped.
use Rattle.std.proofs.Common.{◌≡◌, refl}
use Rattle.site_base.specs.Plain.{Plain}
use Rattle.read_record.specs.Queries.{Query, Give, Fail, Ask, bind}

module _ {F A : Type 0} where
  pub bind-give : (q : Query F A) → bind q (λ a. Give a) ≡ q
  bind-give (Give a) = refl
  bind-give (Fail e) = refl
  bind-give (Ask k on) = λ i. Ask k (λ (v : Plain). bind-give (on v) i)

module _ {F A B C : Type 0} where
  pub bind-assoc : (q : Query F A) (f : A → Query F B) (g : B → Query F C) → bind (bind q f) g ≡ bind q (λ a. bind (f a) g)
  bind-assoc (Give a) f g = refl
  bind-assoc (Fail e) f g = refl
  bind-assoc (Ask k on) f g = λ i. Ask k (λ (v : Plain). bind-assoc (on v) f g i)
