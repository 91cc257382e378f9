-- When an end outside the program may fail, and what byte ends tell of their bytes.
use Rattle.std.specs.Prelude.{◌≡◌, ◌⊎◌, ◌≤◌, ◌+◌, ◌-◌, ◌^◌, min, ℕ, List, ◌++◌, take, Result, Option, Some, OnErr, OnOk, IfOk, IfErr, drop, length, [], ◌<◌, Contains, IsErr, IsErrOf}

-- a sink in memory: the bytes taken, the calls at which it fails, and counts of calls, of failures and of wants of memory
pub record SinkState : Type 0 where
  pub taken : List ℕ
  pub fail : List ℕ
  pub calls : ℕ
  pub failures : ℕ
  pub short : ℕ

-- an input in memory: the bytes left, the calls at which it fails, and counts of calls and of failures
pub record InputState : Type 0 where
  pub left : List ℕ
  pub fail : List ℕ
  pub calls : ℕ
  pub failures : ℕ

-- a u64 count of failures rose, or stands at its last value
abbrev pub Rose : ℕ → ℕ → Type 0
Rose before now = min (before + 1) (2 ^ 64 - 1) ≤ now

-- a count of failures rises where the call fails, and stays where it does not
pub record HasCause {T E : Type 0} (before now : ℕ) (result : Result T E) : Type 0 where
  pub later : before ≤ now
  pub failed : OnErr result (Rose before now)
  pub same : OnOk result (now ≡ before)

-- where the end tells its bytes, a write adds these, and one that fails a prefix of them
pub record Takes {T E : Type 0} (old new : Option (List ℕ)) (bytes : List ℕ) (result : Result T E) : Type 0 where
  pub whole : (w : List ℕ) → old ≡ Some w → OnOk result (new ≡ Some (w ++ bytes))
  pub part : (w : List ℕ) → old ≡ Some w → OnErr result ((k : ℕ) × (new ≡ Some (w ++ take k bytes)))

-- the listed calls fail, and besides only those in which `short` rises by one
pub record FailsAsListed {T E : Type 0} (fail : List ℕ) (call short_before short_now : ℕ) (result : Result T E) : Type 0 where
  pub listed : Contains fail call → IsErr result
  pub besides : OnErr result (Contains fail call ⊎ (short_now ≡ min (short_before + 1) (2 ^ 64 - 1)))
  pub same : OnOk result (short_now ≡ short_before)

-- a count of failures rises where this error is answered, and stays at every other answer
pub record HasCauseOf {T E : Type 0} (error : E) (before now : ℕ) (result : Result T E) : Type 0 where
  pub later : before ≤ now
  pub failed : IsErrOf result error → Rose before now
  pub same : OnOk result (now ≡ before)
  pub others : IfErr result (λ e. (e ≡ error) ⊎ (now ≡ before))

-- where the end tells its bytes, a read moves the first of them into the front of a slice, and no byte only at their end
abbrev pub Gives : {E : Type 0} → Option (List ℕ) → Option (List ℕ) → List ℕ → Result ℕ E → Type 0
Gives old new into result = (bytes : List ℕ) → old ≡ Some bytes →
    IfOk result (λ n. (take n into ≡ take n bytes) × (new ≡ Some (drop n bytes)) × (n ≤ length bytes) × (n ≡ 0 → 0 < length into → bytes ≡ []))
