-- Worked rows: numbers, their texts, and how many ids are held.
use Rattle.std.proofs.Common.{◌≡◌, ◌+◌, codes, [], None, ap, ◌∙◌, arith}
use Rattle.std.specs.FinMap.{empty, get}
use Rattle.text_pool.specs.Texts.{Texts, bytes_of, count_of, held_ids, with_id, without_id}
use Rattle.text_pool.proofs.TextLaws.{get-less, bytes-there, count-empty, count-with, held_ids-empty, held_ids-with, without_last}

-- `ab` twice under 0, and the empty text under 1
abbrev twice : Texts
twice = with_id (with_id empty 0 (codes "ab")) 0 (codes "ab")

abbrev both : Texts
both = with_id twice 1 []

three_ids : held_ids both ≡ 3
three_ids =
    let none : held_ids empty ≡ 0 = held_ids-empty in
    let one = held_ids-with empty 0 (codes "ab") in
    let two = held_ids-with (with_id empty 0 (codes "ab")) 0 (codes "ab") in
    let three = held_ids-with twice 1 [] in
    omega (arith, none, one, two, three)

two_of_them : count_of twice 0 ≡ 2
two_of_them =
    let none = count-empty 0 in
    let one : count_of (with_id empty 0 (codes "ab")) 0 ≡ count_of empty 0 + 1 = count-with empty 0 (codes "ab") 0 in
    let two : count_of twice 0 ≡ count_of (with_id empty 0 (codes "ab")) 0 + 1 = count-with (with_id empty 0 (codes "ab")) 0 (codes "ab") 0 in
    omega (arith, none, one, two)

its_text : bytes_of twice 0 ≡ codes "ab"
its_text = bytes-there (with_id empty 0 (codes "ab")) 0 (record { bytes = codes "ab"; count = count_of (with_id empty 0 (codes "ab")) 0 + 1 })

goes_with_the_last : get (without_id (with_id empty 0 (codes "ab")) 0) 0 ≡ None
goes_with_the_last =
    let none = count-empty 0 in
    let one : count_of (with_id empty 0 (codes "ab")) 0 ≡ count_of empty 0 + 1 = count-with empty 0 (codes "ab") 0 in
    ap (λ (t : Texts). get t 0) (without_last (with_id empty 0 (codes "ab")) 0 (omega (arith, none, one))) ∙ get-less (with_id empty 0 (codes "ab")) 0 0
