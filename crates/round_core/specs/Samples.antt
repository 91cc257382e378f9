-- A small site of three items, which only tests use: the parts 0, 1 and 2 of one path. Item 1 shows its variable, and has a fault where there is
-- none. The items 0 and 2 show the content of item 1. Item 0 stands before it, and sees its source; item 2 stands behind it, and waits for it.
use Rattle.std.specs.Prelude.{◌≡◌, ℕ, zero, suc, pos, true, false, codes, [], ◌∷◌, Option, Some, None, IsTrue, if◌then◌else◌, slice_get, ◌<◌, refl}
use Rattle.std.proofs.Common.{arith, ap, subst, sym, ◌∙◌}
use Rattle.site_base.specs.Plain.{Plain, nil, int, text}
use Rattle.site_base.specs.Values.{value_text, is_true}
use Rattle.site_base.specs.declared.faults.SiteFault.{SiteFault}
use Rattle.site_base.specs.declared.faults.FaultKind.TheVariants.{Undefined}
use Rattle.site_base.specs.declared.item_name.ItemName.{ItemName}
use Rattle.read_record.specs.declared.key.Key.{Key}
use Rattle.read_record.specs.declared.key.Key.TheVariants.{Content, Output, Var, SiteVar, Data, Moment}
use Rattle.read_record.specs.declared.outcome.Outcome.{Outcome}
use Rattle.read_record.specs.declared.outcome.Outcome.TheVariants.{Done, Fault}
use Rattle.read_record.specs.Queries.{Query, Give, Fail, Ask, Reply, Known, Missing}
use Rattle.read_record.specs.Outcomes.{Page, is_done}
use Rattle.read_record.specs.Worlds.{Sight, Lawful, is_steady}
use Rattle.read_record.specs.Forms.{is_words, has_form, IsFormed}

-- the content of item 1 once it is done
abbrev pub content_of : Option Outcome → Reply
content_of (Some (Done content output)) = Known (text content)
content_of (Some (Fault f)) = Missing 1
content_of None = Missing 1

abbrev pub content_reply : Plain → ℕ → (ℕ → Option Outcome) → Reply
content_reply source zero known = Known source
content_reply source (suc zero) known = Known source
content_reply source (suc (suc reader)) known = content_of (known 1)

-- what a reader sees, by the source of item 1 and by its variable
abbrev pub sample_sight : Plain → Plain → Sight
sample_sight source variable reader known (Var name x) = Known variable
sample_sight source variable reader known (Content name) = content_reply source reader known
sample_sight source variable reader known Moment = Known (int (pos 0))
sample_sight source variable reader known k = Known nil

of-content : (o : Option Outcome) (v : Plain) → content_of o ≡ Known v → (p : Outcome) × (o ≡ Some p) × (content_of (Some p) ≡ Known v)
of-content (Some (Done content output)) v h = (Done content output, refl, h)
of-content (Some (Fault f)) v h = cc
of-content None v h = cc

content-grows : (source : Plain) (reader : ℕ) (known more : ℕ → Option Outcome) → ((j : ℕ) (o : Outcome) → j < reader → known j ≡ Some o → more j ≡ Some o)
    → (v : Plain) → content_reply source reader known ≡ Known v → content_reply source reader more ≡ Known v
content-grows source zero known more grow v h = h
content-grows source (suc zero) known more grow v h = h
content-grows source (suc (suc reader)) known more grow v h = let p = of-content (known 1) v h in ap content_of (grow 1 p.0 (omega arith) p.1) ∙ p.2

of-missing : (o : Option Outcome) (j : ℕ) → content_of o ≡ Missing j → (1 ≡ j) × (is_done o ≡ false)
of-missing (Some (Done content output)) j h = cc
of-missing (Some (Fault f)) j h = (cc, refl)
of-missing None j h = (cc, refl)

content-misses : (source : Plain) (reader : ℕ) (known : ℕ → Option Outcome) (j : ℕ) → content_reply source reader known ≡ Missing j → (j < reader) × (is_done (known j) ≡ false)
content-misses source zero known j h = cc
content-misses source (suc zero) known j h = cc
content-misses source (suc (suc reader)) known j h = let p = of-missing (known 1) j h in let at : 1 ≡ j = p.0 in (omega (arith, at), subst (λ i. is_done (known i) ≡ false) at p.1)

view-grows : (source variable : Plain) (reader : ℕ) (known more : ℕ → Option Outcome) → ((j : ℕ) (o : Outcome) → j < reader → known j ≡ Some o → more j ≡ Some o)
    → (k : Key) (v : Plain) → sample_sight source variable reader known k ≡ Known v → sample_sight source variable reader more k ≡ Known v
view-grows source variable reader known more grow (Content name) v h = content-grows source reader known more grow v h
view-grows source variable reader known more grow _ v h = h

view-misses : (source variable : Plain) (reader : ℕ) (known : ℕ → Option Outcome) (k : Key) (j : ℕ) → sample_sight source variable reader known k ≡ Missing j → (j < reader) × (is_done (known j) ≡ false)
view-misses source variable reader known (Content name) j h = content-misses source reader known j h
view-misses source variable reader known _ j h = cc

view-steady : (source variable : Plain) (k : Key) → is_steady k ≡ true → (reader other : ℕ) (known more : ℕ → Option Outcome) → sample_sight source variable reader known k ≡ sample_sight source variable other more k
view-steady source variable (Content name) h reader other known more = cc
view-steady source variable (Output name) h reader other known more = cc
view-steady source variable (Var name x) h reader other known more = refl
view-steady source variable Moment h reader other known more = refl
view-steady source variable _ h reader other known more = refl

pub sample-lawful : (source variable : Plain) → Lawful (sample_sight source variable)
sample-lawful source variable = record { grows = view-grows source variable; misses = view-misses source variable; steady = view-steady source variable }

formed-at : (k : Key) (v w : Plain) → IsTrue (has_form k v) → v ≡ w → IsTrue (has_form k w)
formed-at k v w h e = subst (λ x. IsTrue (has_form k x)) e h

formed-content : (name : ItemName) (o : Option Outcome) (v : Plain) → content_of o ≡ Known v → IsTrue (has_form (Content name) v)
formed-content name (Some (Done content output)) v h = formed-at (Content name) (text content) v refl (cc)
formed-content name (Some (Fault f)) v h = cc
formed-content name None v h = cc

content-formed : (source : Plain) → IsTrue (is_words source) → (name : ItemName) (reader : ℕ) (known : ℕ → Option Outcome) (v : Plain)
    → content_reply source reader known ≡ Known v → IsTrue (has_form (Content name) v)
content-formed source s name zero known v h = formed-at (Content name) source v s (cc)
content-formed source s name (suc zero) known v h = formed-at (Content name) source v s (cc)
content-formed source s name (suc (suc reader)) known v h = formed-content name (known 1) v h

pub sample-formed : (source variable : Plain) → IsTrue (is_words source) → (reader : ℕ) (known : ℕ → Option Outcome) → IsFormed (sample_sight source variable reader known)
sample-formed source variable s reader known (Var name x) v h = refl
sample-formed source variable s reader known (SiteVar x) v h = refl
sample-formed source variable s reader known (Data keys) v h = refl
sample-formed source variable s reader known (Content name) v h = content-formed source s name reader known v h
sample-formed source variable s reader known Moment v h = formed-at Moment (int (pos 0)) v refl (cc)
sample-formed source variable s reader known k v h = formed-at k nil v refl (cc)

part-at : (a b c : ItemName) → a.part ≡ 0 → b.part ≡ 1 → c.part ≡ 2 → (i : ℕ) (n : ItemName) → i < 3 → slice_get (a ∷ b ∷ c ∷ []) i ≡ Some n → n.part ≡ i
part-at a b c p q r zero n l h = let e : a ≡ n = cc in ap (λ (m : ItemName). m.part) (sym e) ∙ p
part-at a b c p q r (suc zero) n l h = let e : b ≡ n = cc in ap (λ (m : ItemName). m.part) (sym e) ∙ q
part-at a b c p q r (suc (suc zero)) n l h = let e : c ≡ n = cc in ap (λ (m : ItemName). m.part) (sym e) ∙ r
part-at a b c p q r (suc (suc (suc i))) n l h = absurd (omega arith)

there : (a b c : ItemName) (i : ℕ) → i < 3 → (n : ItemName) × (slice_get (a ∷ b ∷ c ∷ []) i ≡ Some n)
there a b c zero l = (a, refl)
there a b c (suc zero) l = (b, refl)
there a b c (suc (suc zero)) l = (c, refl)
there a b c (suc (suc (suc i))) l = absurd (omega arith)

within : (a b c : ItemName) (j : ℕ) (n : ItemName) → slice_get (a ∷ b ∷ c ∷ []) j ≡ Some n → j < 3
within a b c zero n h = omega arith
within a b c (suc zero) n h = omega arith
within a b c (suc (suc zero)) n h = omega arith
within a b c (suc (suc (suc j))) n h = cc

pub sample-names_differ : (a b c : ItemName) → a.part ≡ 0 → b.part ≡ 1 → c.part ≡ 2 → (i j : ℕ) → i < 3 → slice_get (a ∷ b ∷ c ∷ []) i ≡ slice_get (a ∷ b ∷ c ∷ []) j → i ≡ j
sample-names_differ a b c p q r i j l h =
    let n = there a b c i l in
    let m = sym h ∙ n.1 in
    sym (part-at a b c p q r i n.0 l n.1) ∙ part-at a b c p q r j n.0 (within a b c j n.0 m) m

-- a text as the content and as the output
abbrev pub page_of : Plain → Page
page_of v = record { content = value_text v; output = value_text v }

-- a page that lacks its variable has a fault
abbrev pub lacks_variable : ItemName → SiteFault
lacks_variable name = record { path = name.path; line = 1; kind = Undefined }

abbrev pub variable_page : ItemName → Plain → Query SiteFault Page
variable_page name v = if is_true v then Give (page_of v) else Fail (lacks_variable name)

-- item 1 shows its variable, the others its content
abbrev pub sample_query : ItemName → ℕ → Query SiteFault Page
sample_query name (suc zero) = Ask (Var name (codes "v")) (λ v. variable_page name v)
sample_query name part = Ask (Content (record { path = name.path; part = 1 })) (λ v. Give (page_of v))

abbrev pub sample_item : ItemName → Query SiteFault Page
sample_item name = sample_query name name.part
