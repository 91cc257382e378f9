-- A view in which variables have their names as values, which only tests use.
use Rattle.std.specs.Prelude.{◌≡◌, pos, codes, IsTrue, refl}
use Rattle.std.proofs.Common.{subst}
use Rattle.site_base.specs.Plain.{Plain, nil, int, text}
use Rattle.read_record.specs.declared.key.Key.{Key}
use Rattle.read_record.specs.declared.key.Key.TheVariants.{Source, Content, Output, Var, SiteVar, Data, Moment}
use Rattle.read_record.specs.Forms.{has_form, IsFormed}
use Rattle.read_record.specs.Queries.{View, Known}
use Rattle.liquid_values.specs.Names.{own_excerpt, Excerpting}
use Rattle.std.specs.Prelude.{ℕ}

abbrev pub echo : View
echo (Source n) = Known (text (codes "source"))
echo (Content n) = Known (text (codes "content"))
echo (Output n) = Known (text (codes "output"))
echo (Var n x) = Known (text x)
echo (SiteVar x) = Known (text x)
echo Moment = Known (int (pos 0))
echo k = Known nil

formed-at : (k : Key) (v w : Plain) → IsTrue (has_form k v) → v ≡ w → IsTrue (has_form k w)
formed-at k v w h e = subst (λ x. IsTrue (has_form k x)) e h

pub echo-formed : IsFormed echo
echo-formed (Var n x) v h = refl
echo-formed (SiteVar x) v h = refl
echo-formed (Data keys) v h = refl
echo-formed (Source n) v h = formed-at (Source n) (text (codes "source")) v refl (cc)
echo-formed (Content n) v h = formed-at (Content n) (text (codes "content")) v refl (cc)
echo-formed (Output n) v h = formed-at (Output n) (text (codes "output")) v refl (cc)
echo-formed Moment v h = formed-at Moment (int (pos 0)) v refl (cc)
echo-formed k v h = formed-at k nil v refl (cc)

abbrev pub own : ℕ → Excerpting
own levels = own_excerpt
