-- A small site and its items, which only tests use. Its two items are the parts 0 and 1 of one path.
use Rattle.std.specs.Prelude.{◌≡◌, ℕ, zero, suc, pos, Bool, true, false, codes, [], ◌∷◌, Option, Some, None, IsTrue, if◌then◌else◌, slice_get, ◌<◌, refl}
use Rattle.std.proofs.Common.{arith, ap, subst}
use Rattle.site_base.specs.Plain.{Plain, nil, int}
use Rattle.site_base.specs.Values.{value_text}
use Rattle.site_base.specs.declared.faults.SiteFault.{SiteFault}
use Rattle.site_base.specs.declared.item_name.ItemName.{ItemName}
use Rattle.read_record.specs.declared.key.Key.{Key}
use Rattle.read_record.specs.declared.key.Key.TheVariants.{Content, Output, Var, SiteVar, Data, Moment}
use Rattle.read_record.specs.declared.outcome.Outcome.{Outcome}
use Rattle.read_record.specs.Queries.{Query, Give, Ask, Reply, Known, Missing}
use Rattle.read_record.specs.Outcomes.{Page, is_done}
use Rattle.read_record.specs.Worlds.{Sight, Lawful, is_steady}
use Rattle.read_record.specs.Forms.{has_form, IsFormed}

-- the one variable of an item
abbrev pub variable_of : Plain → Plain → ℕ → Plain
variable_of first second zero = first
variable_of first second (suc n) = second

-- the first item has to be done before the second sees that it has no content
abbrev pub content_reply : ℕ → (ℕ → Option Outcome) → Reply
content_reply zero known = Known nil
content_reply (suc reader) known = if is_done (known 0) then Known nil else Missing 0

-- what a reader sees, by the variables of the items
abbrev pub sample_sight : Plain → Plain → Sight
sample_sight first second reader known (Var name x) = Known (variable_of first second name.part)
sample_sight first second reader known (Content name) = content_reply reader known
sample_sight first second reader known Moment = Known (int (pos 0))
sample_sight first second reader known k = Known nil

content-grows : (reader : ℕ) (known more : ℕ → Option Outcome) → ((j : ℕ) (o : Outcome) → j < reader → known j ≡ Some o → more j ≡ Some o)
    → (v : Plain) → content_reply reader known ≡ Known v → content_reply reader more ≡ Known v
content-grows zero known more grow v h = h
content-grows (suc reader) known more grow v h = go (known 0) refl h
  where
    go : (o : Option Outcome) → known 0 ≡ o → (if is_done o then Known nil else Missing 0) ≡ Known v → (if is_done (more 0) then Known nil else Missing 0) ≡ Known v
    go (Some o) e g = let at : more 0 ≡ Some o = grow 0 o (omega arith) e in rw at g
    go None e g = cc

content-misses : (reader : ℕ) (known : ℕ → Option Outcome) (j : ℕ) → content_reply reader known ≡ Missing j → (j < reader) × (is_done (known j) ≡ false)
content-misses zero known j h = cc
content-misses (suc reader) known j h = go (is_done (known 0)) refl h
  where
    go : (b : Bool) → is_done (known 0) ≡ b → (if b then Known nil else Missing 0) ≡ Missing j → (j < suc reader) × (is_done (known j) ≡ false)
    go true e g = cc
    go false e g = let at : 0 ≡ j = cc in (omega arith, rw (← at) e)

view-grows : (first second : Plain) (reader : ℕ) (known more : ℕ → Option Outcome) → ((j : ℕ) (o : Outcome) → j < reader → known j ≡ Some o → more j ≡ Some o)
    → (k : Key) (v : Plain) → sample_sight first second reader known k ≡ Known v → sample_sight first second reader more k ≡ Known v
view-grows first second reader known more grow (Content name) v h = content-grows reader known more grow v h
view-grows first second reader known more grow _ v h = h

view-misses : (first second : Plain) (reader : ℕ) (known : ℕ → Option Outcome) (k : Key) (j : ℕ) → sample_sight first second reader known k ≡ Missing j → (j < reader) × (is_done (known j) ≡ false)
view-misses first second reader known (Content name) j h = content-misses reader known j h
view-misses first second reader known _ j h = cc

view-steady : (first second : Plain) (k : Key) → is_steady k ≡ true → (reader other : ℕ) (known more : ℕ → Option Outcome) → sample_sight first second reader known k ≡ sample_sight first second other more k
view-steady first second (Content name) h reader other known more = cc
view-steady first second (Output name) h reader other known more = cc
view-steady first second (Var name x) h reader other known more = refl
view-steady first second Moment h reader other known more = refl
view-steady first second _ h reader other known more = refl

pub sample-lawful : (first second : Plain) → Lawful (sample_sight first second)
sample-lawful first second = record { grows = view-grows first second; misses = view-misses first second; steady = view-steady first second }

content-formed : (reader : ℕ) (known : ℕ → Option Outcome) (v : Plain) → content_reply reader known ≡ Known v → nil ≡ v
content-formed zero known v h = cc
content-formed (suc reader) known v h = go (is_done (known 0)) h
  where
    go : (b : Bool) → (if b then Known nil else Missing 0) ≡ Known v → nil ≡ v
    go true g = cc
    go false g = cc

formed-at : (k : Key) (v w : Plain) → IsTrue (has_form k v) → v ≡ w → IsTrue (has_form k w)
formed-at k v w h e = subst (λ x. IsTrue (has_form k x)) e h

pub sample-formed : (first second : Plain) (reader : ℕ) (known : ℕ → Option Outcome) → IsFormed (sample_sight first second reader known)
sample-formed first second reader known (Var name x) v h = refl
sample-formed first second reader known (SiteVar x) v h = refl
sample-formed first second reader known (Data keys) v h = refl
sample-formed first second reader known (Content name) v h = formed-at (Content name) nil v refl (content-formed reader known v h)
sample-formed first second reader known Moment v h = formed-at Moment (int (pos 0)) v refl (cc)
sample-formed first second reader known k v h = formed-at k nil v refl (cc)

pub sample-names_differ : (a b : ItemName) → a.part ≡ 0 → b.part ≡ 1 → (i j : ℕ) → i < 2 → slice_get (a ∷ b ∷ []) i ≡ slice_get (a ∷ b ∷ []) j → i ≡ j
sample-names_differ a b p q zero zero l h = refl
sample-names_differ a b p q zero (suc zero) l h = let e : a ≡ b = cc in absurd (omega (arith, ap (λ (n : ItemName). n.part) e, p, q))
sample-names_differ a b p q zero (suc (suc j)) l h = cc
sample-names_differ a b p q (suc zero) zero l h = let e : b ≡ a = cc in absurd (omega (arith, ap (λ (n : ItemName). n.part) e, p, q))
sample-names_differ a b p q (suc zero) (suc zero) l h = refl
sample-names_differ a b p q (suc zero) (suc (suc j)) l h = cc
sample-names_differ a b p q (suc (suc i)) j l h = absurd (omega arith)

-- the text of a variable, twice
abbrev pub page_of : Plain → Page
page_of v = record { content = value_text v; output = value_text v }

-- the first item looks for a variable of the site, then for its own, then for that of the site again; the second item
-- looks at the first one's content, and then at its own variable
abbrev pub sample_query : ItemName → ℕ → Query SiteFault Page
sample_query name zero = Ask (SiteVar (codes "t")) (λ _. Ask (Var name (codes "v")) (λ v. Ask (SiteVar (codes "t")) (λ _. Give (page_of v))))
sample_query name (suc part) = Ask (Content (record { path = name.path; part = 0 })) (λ _. Ask (Var name (codes "v")) (λ v. Give (page_of v)))

abbrev pub sample_item : ItemName → Query SiteFault Page
sample_item name = sample_query name name.part
