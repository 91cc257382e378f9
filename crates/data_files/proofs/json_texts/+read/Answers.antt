use Rattle.std.proofs.Common.{◌≡◌, ◌-◌, ◌<◌, [], ◌∷◌, length, Some, None, option_map, sym, ap, ap₂, ◌∙◌, arith}
use Rattle.json.specs.Token.{Token}
use Rattle.json.specs.Json.{parse_map, after_end_array, read_key, items, members, value}
use Rattle.json.specs.Reads.{token_of}
use Rattle.json.proofs.Grammar.{value_is, value-begin_array, value-begin_object, read_key-shorter}
use Rattle.serde_json.specs.Read.{converted, number_of}
use Rattle.site_base.specs.Plain.{text, list}
use Rattle.site_base.specs.View.{plain}
use Rattle.data_files.specs.Readings.{reading, items_reading, members_reading, seen, object_of}
use Rattle.data_files.proofs.ReadingLaws.{number_reads, number_refused, reading-array, item_read, item_refused, items_over, member_read, member_refused, key_refused, members_over, joined, joined_nothing, one_more_item, none_before}
use Rattle.data_files.proofs.MemberLaws.{reading-object}
use Rattle.data_files.proofs.json_texts.+read.Goals as goal

pub read_value-returns-in_err-token-clause-err : goal.read_value-returns-in_err-token-clause-err
read_value-returns-in_err-token-clause-err t c refused =
    let empty : c.args.reader.now ≡ [] = grind arith in
    ap (converted reading) (ap (value c.args.depth) empty ∙ value_is c.args.depth [])

pub read_value-returns-then-depth-eq0-clause-err : goal.read_value-returns-then-depth-eq0-clause-err
unfolding value
read_value-returns-then-depth-eq0-clause-err t c never =
    let first : c.args.reader.now ≡ token_of c.in_ok-token.token ∷ c.next.new.self = grind arith in
    let none : c.args.depth ≡ 0 = omega arith in
    ap (converted reading) (ap₂ value none (first ∙ ap (λ k. token_of k ∷ c.next.new.self) c.in-BeginArray.is))

pub read_value-returns-then-depth-eq0-2-clause-err : goal.read_value-returns-then-depth-eq0-2-clause-err
unfolding value
read_value-returns-then-depth-eq0-2-clause-err t c never =
    let first : c.args.reader.now ≡ token_of c.in_ok-token.token ∷ c.next.new.self = grind arith in
    let none : c.args.depth ≡ 0 = omega arith in
    ap (converted reading) (ap₂ value none (first ∙ ap (λ k. token_of k ∷ c.next.new.self) c.in-BeginObject.is))

pub read_value-returns-in_err-read_items-in-BeginArray-clause-err : goal.read_value-returns-in_err-read_items-in-BeginArray-clause-err
read_value-returns-in_err-read_items-in-BeginArray-clause-err t c refused =
    let first : c.args.reader.now ≡ token_of c.in_ok-token.token ∷ c.next.new.self = grind arith in
    let opened = ap (converted reading) (ap (value c.args.depth) (first ∙ ap (λ k. token_of k ∷ c.next.new.self) c.in-BeginArray.is) ∙ value-begin_array c.args.depth c.next.new.self (omega arith)) ∙ reading-array (items (value (c.args.depth - 1)) (length c.next.new.self) c.next.new.self) in
    opened ∙ ap (parse_map (option_map list)) (c.read_items.ensures.err (grind arith))

pub read_value-returns-in_err-members-in-BeginObject-clause-err : goal.read_value-returns-in_err-members-in-BeginObject-clause-err
read_value-returns-in_err-members-in-BeginObject-clause-err t c refused =
    let first : c.args.reader.now ≡ token_of c.in_ok-token.token ∷ c.next.new.self = grind arith in
    let opened = ap (converted reading) (ap (value c.args.depth) (first ∙ ap (λ k. token_of k ∷ c.next.new.self) c.in-BeginObject.is) ∙ value-begin_object c.args.depth c.next.new.self (omega arith)) ∙ reading-object (members (value (c.args.depth - 1)) (length c.next.new.self) c.next.new.self) in
    opened ∙ ap (parse_map object_of) (c.read_members.ensures.err (grind arith))

pub read_items-items-init : goal.read_items-items-init
read_items-items-init t c =
    let all = converted items_reading (items (value c.args.depth) (length c.args.reader.now) c.args.reader.now) in
    (length c.args.reader.now, omega arith, none_before all ∙ ap (λ is. parse_map (joined (Some is)) all) (sym c.new.ensures), omega arith)

pub read_items-returns-in_err-item-clause-err : goal.read_items-returns-in_err-item-clause-err
read_items-returns-in_err-item-clause-err t c refused =
    let p = value c.args.depth in
    let l = c.items in
    let n = l.invariant.0 in
    let going : (after_end_array l.reader ≡ None) × (c.take_end_array.new.self ≡ l.reader) = grind arith in
    l.invariant.2 ∙ ap (parse_map (joined l.list)) (item_refused p n l.reader going.0 (rw (← going.1) (c.read_value.ensures.err (grind arith))))

pub read_items-items-preserved : goal.read_items-items-preserved
read_items-items-preserved t c =
    let p = value c.args.depth in
    let l = c.items in
    let n = l.invariant.0 in
    let going : (after_end_array l.reader ≡ None) × (c.take_end_array.new.self ≡ l.reader) = grind arith in
    let done = c.in_ok-item.ensures in
    let o = option_map plain c.in_ok-item.item in
    let r = c.read_value.new.reader in
    let less : length r < length l.reader = rw (← going.1) done.shorter in
    let turn = item_read p n l.reader r o (omega (arith, l.invariant.1)) going.0 (rw (← going.1) done.ok) in (
      n - 1,
      omega (arith, l.invariant.1),
      l.invariant.2 ∙ ap (parse_map (joined l.list)) turn ∙ one_more_item l.list o _
          ∙ ap (λ is. parse_map (joined is) (converted items_reading (items p (n - 1) r))) (sym c.in_ok-list.ensures),
      omega (arith, l.invariant.3),
    )

pub read_items-returns-clause-ok : goal.read_items-returns-clause-ok
read_items-returns-clause-ok t c =
    let p = value c.args.depth in
    let l = c.items in
    let n = l.invariant.0 in
    let r = c.take_end_array.new.self in
    l.invariant.2 ∙ ap (parse_map (joined l.list)) (items_over p n l.reader r l.invariant.1 (grind arith)) ∙ ap (λ is. Some (is, r)) (joined_nothing l.list)

pub read_members-members-init : goal.read_members-members-init
read_members-members-init t c =
    let all = members (value c.args.depth) (length c.args.reader.now) c.args.reader.now in
    (length c.args.reader.now, omega arith, ap (λ es. converted (members_reading (seen es)) all) (sym c.new-found.ensures.empty), omega arith)

pub read_members-returns-in_err-key-clause-err : goal.read_members-returns-in_err-key-clause-err
read_members-returns-in_err-key-clause-err t c refused =
    let p = value c.args.depth in
    let l = c.members in
    let n = l.invariant.0 in
    l.invariant.2 ∙ key_refused p (seen l.found.entries) n l.reader c.in_err-key.ensures.value.0

pub read_members-returns-in_err-member-clause-err : goal.read_members-returns-in_err-member-clause-err
read_members-returns-in_err-member-clause-err t c refused =
    let p = value c.args.depth in
    let l = c.members in
    let n = l.invariant.0 in
    let k = c.in-Some.key.now in
    let s = c.next_key.new.reader in
    let named : read_key l.reader ≡ Some (Some k, s) = grind arith in
    l.invariant.2 ∙ member_refused p (seen l.found.entries) n k l.reader s named (c.read_value.ensures.err (grind arith))

pub read_members-members-preserved : goal.read_members-members-preserved
read_members-members-preserved t c =
    let p = value c.args.depth in
    let l = c.members in
    let n = l.invariant.0 in
    let old = seen l.found.entries in
    let k = c.in-Some.key.now in
    let s = c.next_key.new.reader in
    let named : read_key l.reader ≡ Some (Some k, s) = grind arith in
    let done = c.in_ok-member.ensures in
    let o = option_map plain c.in_ok-member.member in
    let r = c.read_value.new.reader in
    let less = read_key-shorter l.reader (Some k) s named in
    let lesser = done.shorter in
    let inserted = c.in_ok-put.ensures in (
      n - 1,
      omega (arith, l.invariant.1),
      l.invariant.2 ∙ member_read p old n k l.reader s r o (omega (arith, l.invariant.1)) named done.ok
          ∙ ap (λ found. converted (members_reading found) (members p (n - 1) r)) (sym inserted),
      omega (arith, l.invariant.3),
    )

pub read_members-returns-clause-ok : goal.read_members-returns-clause-ok
read_members-returns-clause-ok t c =
    let p = value c.args.depth in
    let l = c.members in
    let n = l.invariant.0 in
    l.invariant.2 ∙ members_over p (seen l.found.entries) n l.reader c.next_key.new.reader l.invariant.1 (grind arith)

pub read_value-returns-in_ok-copy-in-String-clause-ok : goal.read_value-returns-in_ok-copy-in-String-clause-ok
read_value-returns-in_ok-copy-in-String-clause-ok t c =
    let first : c.args.reader.now ≡ token_of c.in_ok-token.token ∷ c.next.new.self = grind arith in
    let is : c.args.reader.now ≡ Token.string c.in-String.text.now ∷ c.next.new.self = grind (arith, first) in
    ap (converted reading) (ap (value c.args.depth) is ∙ value_is c.args.depth _) ∙ ap (λ s. Some (Some (text s), c.next.new.self)) (sym c.in_ok-copy-in-String.ensures)

pub read_value-returns-in-Bool-clause-ok : goal.read_value-returns-in-Bool-clause-ok
read_value-returns-in-Bool-clause-ok t c =
    let first : c.args.reader.now ≡ token_of c.in_ok-token.token ∷ c.next.new.self = grind arith in
    let is : c.args.reader.now ≡ Token.boolean c.in-Bool.is_set ∷ c.next.new.self = grind (arith, first) in
    ap (converted reading) (ap (value c.args.depth) is ∙ value_is c.args.depth _)

pub read_value-returns-in-Null-clause-ok : goal.read_value-returns-in-Null-clause-ok
read_value-returns-in-Null-clause-ok t c =
    let first : c.args.reader.now ≡ token_of c.in_ok-token.token ∷ c.next.new.self = grind arith in
    let is : c.args.reader.now ≡ Token.null ∷ c.next.new.self = grind (arith, first) in
    ap (converted reading) (ap (value c.args.depth) is ∙ value_is c.args.depth _)

pub read_value-returns-in-Some-clause-ok : goal.read_value-returns-in-Some-clause-ok
read_value-returns-in-Some-clause-ok t c =
    let first : c.args.reader.now ≡ token_of c.in_ok-token.token ∷ c.next.new.self = grind arith in
    let is : c.args.reader.now ≡ Token.number c.in-Number.text.now ∷ c.next.new.self = grind (arith, first) in
    ap (converted reading) (ap (value c.args.depth) is ∙ value_is c.args.depth _)
    ∙ ap (option_map (λ b. (b, c.next.new.self))) (number_reads (number_of c.in-Number.text.now) c.in-Some.number c.in-Some.ensures)
    ∙ ap (λ d. Some (d, c.next.new.self)) (sym c.number_value.ensures)

pub read_value-returns-in-None-clause-err : goal.read_value-returns-in-None-clause-err
read_value-returns-in-None-clause-err t c never =
    let first : c.args.reader.now ≡ token_of c.in_ok-token.token ∷ c.next.new.self = grind arith in
    let is : c.args.reader.now ≡ Token.number c.in-Number.text.now ∷ c.next.new.self = grind (arith, first) in
    ap (converted reading) (ap (value c.args.depth) is ∙ value_is c.args.depth _)
    ∙ ap (option_map (λ b. (b, c.next.new.self))) (number_refused (number_of c.in-Number.text.now) c.in-None.ensures)

pub read_value-returns-in-EndObject-clause-err : goal.read_value-returns-in-EndObject-clause-err
read_value-returns-in-EndObject-clause-err t c never =
    let first : c.args.reader.now ≡ token_of c.in_ok-token.token ∷ c.next.new.self = grind arith in
    let none : value c.args.depth c.args.reader.now ≡ None = rw (value_is c.args.depth c.args.reader.now, first) (grind arith) in
    ap (converted reading) none

pub read_value-returns-in_ok-read_items-in-BeginArray-clause-ok : goal.read_value-returns-in_ok-read_items-in-BeginArray-clause-ok
read_value-returns-in_ok-read_items-in-BeginArray-clause-ok t c =
    let first : c.args.reader.now ≡ token_of c.in_ok-token.token ∷ c.next.new.self = grind arith in
    let opened = ap (converted reading) (ap (value c.args.depth) (first ∙ ap (λ k. token_of k ∷ c.next.new.self) c.in-BeginArray.is) ∙ value-begin_array c.args.depth c.next.new.self (omega arith)) ∙ reading-array (items (value (c.args.depth - 1)) (length c.next.new.self) c.next.new.self) in
    opened ∙ ap (parse_map (option_map list)) c.in_ok-read_items-in-BeginArray.ensures.ok ∙ ap (λ d. Some (d, c.read_items.new.reader)) (sym c.list_value.ensures)

pub read_value-returns-in_ok-hash_of-in-BeginObject-clause-ok : goal.read_value-returns-in_ok-hash_of-in-BeginObject-clause-ok
read_value-returns-in_ok-hash_of-in-BeginObject-clause-ok t c =
    let first : c.args.reader.now ≡ token_of c.in_ok-token.token ∷ c.next.new.self = grind arith in
    let opened = ap (converted reading) (ap (value c.args.depth) (first ∙ ap (λ k. token_of k ∷ c.next.new.self) c.in-BeginObject.is) ∙ value-begin_object c.args.depth c.next.new.self (omega arith)) ∙ reading-object (members (value (c.args.depth - 1)) (length c.next.new.self) c.next.new.self) in
    opened ∙ ap (parse_map object_of) c.in_ok-members-in-BeginObject.ensures.ok ∙ ap (λ d. Some (d, c.read_members.new.reader)) (sym c.in_ok-hash_of-in-BeginObject.ensures)
