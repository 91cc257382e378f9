-- Where an evaluation stands: the file and the line, the item, what the text around is, and the variables of the loops and includes around.
use Rattle.std.specs.Prelude.{ℕ, Bool, true, false, List, [], Result, Ok, Err}
use Rattle.site_base.specs.Plain.{Plain, nil}
use Rattle.site_base.specs.declared.faults.FaultKind.{FaultKind}
use Rattle.site_base.specs.declared.faults.SiteFault.{SiteFault}
use Rattle.site_base.specs.declared.item_name.ItemName.{ItemName}
use Rattle.read_record.specs.Queries.{Query, Give, Fail, Ask}

-- what a text is: an item's body, the front of one, or a layout around an item's text
pub data Manner : Type 0 where
  of_body : Manner
  of_excerpt : Manner
  -- the item's own converted text, the text so far, and the variables of the layouts
  of_layout : (own content : List ℕ) → (layout : Plain) → Manner

pub record Place : Type 0 where
  -- the file that holds the tag, and the tag's line
  pub file : List ℕ
  pub line : ℕ
  pub page : ItemName
  pub manner : Manner
  -- the variables of the loops and includes around, from the innermost
  pub locals : List (List ℕ × Plain)
  -- the `forloop` of the innermost `for` around
  pub around : Plain
  -- a loop is around
  pub looping : Bool
  -- text stands in a block that writes nothing
  pub quiet : Bool
  -- what is undefined is a fault where the site wants that
  pub tested : Bool

abbrev pub at_line : ℕ → Place → Place
at_line line p = record { file = p.file; line = line; page = p.page; manner = p.manner; locals = p.locals; around = p.around; looping = p.looping; quiet = p.quiet; tested = p.tested }

abbrev pub silenced : Bool → Place → Place
silenced quiet p = record { file = p.file; line = p.line; page = p.page; manner = p.manner; locals = p.locals; around = p.around; looping = p.looping; quiet = quiet; tested = p.tested }

-- what is undefined is nil, whatever the site wants
abbrev pub untested : Place → Place
untested p = record { file = p.file; line = p.line; page = p.page; manner = p.manner; locals = p.locals; around = p.around; looping = p.looping; quiet = p.quiet; tested = false }

abbrev pub in_loop : List (List ℕ × Plain) → Plain → Place → Place
in_loop locals around p = record { file = p.file; line = p.line; page = p.page; manner = p.manner; locals = locals; around = around; looping = true; quiet = p.quiet; tested = p.tested }

-- in the text of an include, which is read from its first line
abbrev pub in_include : List ℕ → List (List ℕ × Plain) → Place → Place
in_include file locals p = record { file = file; line = 0; page = p.page; manner = p.manner; locals = locals; around = p.around; looping = p.looping; quiet = p.quiet; tested = p.tested }

-- at the front of a whole text
abbrev pub at_start : List ℕ → ItemName → Manner → Place
at_start file page manner = record { file = file; line = 0; page = page; manner = manner; locals = []; around = nil; looping = false; quiet = false; tested = true }

-- the fault of the tag
abbrev pub fault_at : Place → FaultKind → SiteFault
fault_at p kind = record { path = p.file; line = p.line; kind = kind }

abbrev pub site_fault : List ℕ → ℕ → FaultKind → SiteFault
site_fault path line kind = record { path = path; line = line; kind = kind }

module _ {A : Type 0} where
  abbrev pub fails : Place → FaultKind → Query SiteFault A
  fails p kind = Fail (fault_at p kind)

  -- what is found without a look-up, where a fault is the tag's
  abbrev pub found_at : Place → Result A FaultKind → Query SiteFault A
  found_at p (Ok a) = Give a
  found_at p (Err kind) = fails p kind

  -- a query whose faults are the tag's
  abbrev pub placed : Place → Query FaultKind A → Query SiteFault A
  placed p (Give a) = Give a
  placed p (Fail kind) = fails p kind
  placed p (Ask k on) = Ask k (λ v. placed p (on v))
