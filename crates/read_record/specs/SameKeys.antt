-- That the test of keys tells equality.
use Rattle.std.specs.Prelude.{◌≡◌, ℕ, zero, suc, Bool, true, false, ◌&&◌, refl, IsTrue}
use Rattle.std.specs.Bool.{Decides}
use Rattle.std.specs.Cmp.{IsEquivalence, decided}
use Rattle.std.proofs.Common.{sym, ap, ◌∙◌}
use Rattle.std.proofs.lemmas.Slice.Eq.{bytes_eq-Decides}
use Rattle.std.proofs.lemmas.Bool.Decides.{Decides-eqb}
use Rattle.site_base.specs.Code.{code}
use Rattle.site_base.specs.Plain.{Plain, list, Items, no_items, item}
use Rattle.site_base.specs.declared.item_name.ItemName.{ItemName}
use Rattle.site_base.proofs.CodeLaws.{code-injective}
use Rattle.read_record.specs.declared.key.Key.{Key}
use Rattle.read_record.specs.declared.key.Key.TheVariants.{Source, Content, Output, Var, Paginator, SiteVar, Data, Layout, Include, File, Link, Post, Moment}
use Rattle.read_record.specs.Keys.{Parts, parts_of, same_items, same_parts, same_key, key_writes}

name_of : Parts → ItemName
name_of p = record { path = p.path; part = p.part }

-- the key of a kind, behind a number of kinds
late_key_of : ℕ → Parts → Key
late_key_of zero p = Data p.keys
late_key_of (suc zero) p = Layout p.words
late_key_of (suc (suc zero)) p = Include p.words
late_key_of (suc (suc (suc zero))) p = File p.words
late_key_of (suc (suc (suc (suc zero)))) p = Link p.words
late_key_of (suc (suc (suc (suc (suc zero))))) p = Post p.words
late_key_of (suc (suc (suc (suc (suc (suc k)))))) p = Moment

key_of_kind : ℕ → Parts → Key
key_of_kind zero p = Source (name_of p)
key_of_kind (suc zero) p = Content (name_of p)
key_of_kind (suc (suc zero)) p = Output (name_of p)
key_of_kind (suc (suc (suc zero))) p = Var (name_of p) p.words
key_of_kind (suc (suc (suc (suc zero)))) p = Paginator (name_of p)
key_of_kind (suc (suc (suc (suc (suc zero))))) p = SiteVar p.words
key_of_kind (suc (suc (suc (suc (suc (suc k)))))) p = late_key_of k p

key_of : Parts → Key
key_of p = key_of_kind p.kind p

key_of-parts : (k : Key) → key_of (parts_of k) ≡ k
unfolding key_of key_of_kind late_key_of name_of
key_of-parts (Source name) = refl
key_of-parts (Content name) = refl
key_of-parts (Output name) = refl
key_of-parts (Var name x) = refl
key_of-parts (Paginator name) = refl
key_of-parts (SiteVar x) = refl
key_of-parts (Data keys) = refl
key_of-parts (Layout x) = refl
key_of-parts (Include x) = refl
key_of-parts (File path) = refl
key_of-parts (Link path) = refl
key_of-parts (Post x) = refl
key_of-parts Moment = refl

both-true : (a b : Bool) → (a && b) ≡ true → (a ≡ true) × (b ≡ true)
both-true true b h = (refl, h)
both-true false b h = cc

first_list : Plain → Items
first_list (list is) = is
first_list _ = no_items

same_items-eq : (a b : Items) → same_items a b ≡ true → a ≡ b
unfolding first_list
same_items-eq no_items no_items h = refl
same_items-eq no_items (item w js) h = cc
same_items-eq (item v is) no_items h = cc
same_items-eq (item v is) (item w js) h = ap first_list (code-injective (list (item v is)) (list (item w js)) ((bytes_eq-Decides (code (list (item v is))) (code (list (item w js)))).0 h))

pub same_items-refl : (a : Items) → same_items a a ≡ true
same_items-refl no_items = refl
same_items-refl (item v is) = (bytes_eq-Decides (code (list (item v is))) (code (list (item v is)))).1 refl

pub same_items-Decides : (a b : Items) → Decides (same_items a b) (a ≡ b)
same_items-Decides a b = (same_items-eq a b, λ e. ap (λ k. same_items a k) (sym e) ∙ same_items-refl a)

same_parts-eq : (a b : Parts) → same_parts a b ≡ true → a ≡ b
same_parts-eq a b h =
    let p = both-true _ _ h in
    let q = both-true _ _ p.1 in
    let r = both-true _ _ q.1 in
    let s = both-true _ _ r.1 in
    let kind : a.kind ≡ b.kind = (Decides-eqb _ _).0 p.0 in
    let path : a.path ≡ b.path = (bytes_eq-Decides _ _).0 q.0 in
    let part : a.part ≡ b.part = (Decides-eqb _ _).0 r.0 in
    let words : a.words ≡ b.words = (bytes_eq-Decides _ _).0 s.0 in
    let keys : a.keys ≡ b.keys = same_items-eq _ _ s.1 in
    λ i. record { kind = kind i; path = path i; part = part i; words = words i; keys = keys i }

pub same_key-eq : (a b : Key) → same_key a b ≡ true → a ≡ b
same_key-eq a b h = sym (key_of-parts a) ∙ ap key_of (same_parts-eq (parts_of a) (parts_of b) h) ∙ key_of-parts b

same_parts-refl : (a : Parts) → same_parts a a ≡ true
same_parts-refl a =
    rw ((Decides-eqb a.kind a.kind).1 refl, (bytes_eq-Decides a.path a.path).1 refl, (Decides-eqb a.part a.part).1 refl, (bytes_eq-Decides a.words a.words).1 refl)
    (same_items-refl a.keys)

pub same_key-refl : (a : Key) → same_key a a ≡ true
same_key-refl a = same_parts-refl (parts_of a)

pub same_key-Decides : (a b : Key) → Decides (same_key a b) (a ≡ b)
same_key-Decides a b = (same_key-eq a b, λ e. ap (λ k. same_key a k) (sym e) ∙ same_key-refl a)

pub same_key-equiv : IsEquivalence same_key
same_key-equiv = decided same_key same_key-Decides

pub key_writes-same : (a b : Key) → IsTrue (same_key a b) → key_writes a ≡ key_writes b
key_writes-same a b h = ap key_writes (same_key-eq a b h)
