-- A definition that looks things up, as a tree of its look-ups.
--     Query F A         it gives a value of A, fails with a fault of F, or asks for a key and goes on by the value that is answered
--     bind              one query, and then another by what it gave
--     View              what answers the keys: a value, or the item that has to be done first
--     interpret         what a query gives over a view
--     run               the same, with what it leaves of a trace: the reads so far, where they are kept
use Rattle.std.specs.Prelude.{ℕ, List, [], ◌∷◌, ◌++◌, Option, Some, None}
use Rattle.std.specs.Map.{lookup}
use Rattle.site_base.specs.Code.{code}
use Rattle.site_base.specs.Plain.{Plain}
use Rattle.read_record.specs.declared.key.Key.{Key}
use Rattle.read_record.specs.Keys.{same_key}

pub data Query (F A : Type 0) : Type 0 where
  Give : A → Query F A
  Fail : F → Query F A
  Ask : Key → (Plain → Query F A) → Query F A

module _ {F A B : Type 0} where
  abbrev pub bind : Query F A → (A → Query F B) → Query F B
  bind (Give a) next = next a
  bind (Fail e) next = Fail e
  bind (Ask k on) next = Ask k (λ v. bind (on v) next)

-- what answers a key: its value, or that this item has to be done first
pub data Reply : Type 0 where
  Known : Plain → Reply
  Missing : ℕ → Reply

abbrev pub View : Type 0
View = Key → Reply

abbrev pub on_reply : {R : Type 0} → Reply → (Plain → R) → (ℕ → R) → R
on_reply (Known v) known missing = known v
on_reply (Missing j) known missing = missing j

-- ---- what a query gives

-- a value, a fault, or the first key that the view misses, with the item that has to be done first
pub data Met (F A : Type 0) : Type 0 where
  Gave : A → Met F A
  Failed : F → Met F A
  Missed : Key → ℕ → Met F A

module _ {F A : Type 0} where
  abbrev pub interpret : View → Query F A → Met F A
  interpret view (Give a) = Gave a
  interpret view (Fail e) = Failed e
  interpret view (Ask k on) = on_reply (view k) (λ v. interpret view (on v)) (λ j. Missed k j)

  -- the key that is missed
  abbrev pub missed_key : Met F A → Option Key
  missed_key (Missed k j) = Some k
  missed_key _ = None

  -- the item that has to be done first
  abbrev pub needed_item : Met F A → Option ℕ
  needed_item (Missed k j) = Some j
  needed_item _ = None

-- ---- what was read

-- keys with the codes of the values that were seen
abbrev pub Reads : Type 0
Reads = List (Key × List ℕ)

abbrev pub noted_after : Option (List ℕ) → Key → List ℕ → Reads → Reads
noted_after (Some seen) k bytes reads = reads
noted_after None k bytes reads = reads ++ (k, bytes) ∷ []

-- a key is noted once, where it is first read
abbrev pub noted : Key → List ℕ → Reads → Reads
noted k bytes reads = noted_after (lookup (same_key k) reads) k bytes reads

-- the reads so far, where they are kept
abbrev pub Trace : Type 0
Trace = Option Reads

abbrev pub note : Key → Plain → Trace → Trace
note k v None = None
note k v (Some reads) = Some (noted k (code v) reads)

-- what a run tells: of a key that is missed only the item
pub data Ran (F A : Type 0) : Type 0 where
  RanTo : A → Trace → Ran F A
  FailedAt : F → Trace → Ran F A
  WaitsFor : ℕ → Trace → Ran F A

module _ {F A : Type 0} where
  abbrev pub run : View → Trace → Query F A → Ran F A
  run view t (Give a) = RanTo a t
  run view t (Fail e) = FailedAt e t
  run view t (Ask k on) = on_reply (view k) (λ v. run view (note k v t) (on v)) (λ j. WaitsFor j t)

  -- a run, from what is met and the trace that is left
  abbrev pub ran : Met F A → Trace → Ran F A
  ran (Gave a) t = RanTo a t
  ran (Failed e) t = FailedAt e t
  ran (Missed k j) t = WaitsFor j t

  -- what a run reads beside these reads
  abbrev pub reads_of : View → Reads → Query F A → Reads
  reads_of view reads (Give a) = reads
  reads_of view reads (Fail e) = reads
  reads_of view reads (Ask k on) = on_reply (view k) (λ v. reads_of view (noted k (code v) reads) (on v)) (λ j. reads)

module _ {F A B : Type 0} where
  -- a run, and then another from where it gave a value
  abbrev pub then_run : Ran F A → (A → Trace → Ran F B) → Ran F B
  then_run (RanTo a t) next = next a t
  then_run (FailedAt e t) next = FailedAt e t
  then_run (WaitsFor j t) next = WaitsFor j t
