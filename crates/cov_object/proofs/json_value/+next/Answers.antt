use Rattle.std.proofs.Common.{◌≡◌, ◌-◌, ◌<◌, [], ◌∷◌, length, Some, None, inl, inr, string_bytes, option_map, sym, ap, ◌∙◌, arith, rules}
use Rattle.json.specs.Token.{Token}
use Rattle.json.specs.Json.{parse_map, after_end_array, read_key, value}
use Rattle.json.specs.Reads.{token_of}
use Rattle.json.proofs.Grammar.{value_is, read_key-shorter}
use Rattle.serde_json.specs.Data.{null, boolean, number, string, array, object, put}
use Rattle.serde_json.specs.Read.{of_json, converted}
use Rattle.serde_json.specs.View.{view, number_view, items_view, members_view}
use Rattle.serde_json.specs.declared.value.Value.{String, Number, Bool, Null, the_lemmas}
use Rattle.serde_json.proofs.Views.{view-Array, view-Object, members_view-insert_entry}
use Rattle.cov_object.proofs.JsonValue.{opens_array, opens_object, opens_nothing, null-read, boolean-read, string-read, number-read, nothing-read, data_items, data_members, item_read, item_refused, items_over, member_read, member_refused, key_refused, members_over, followed, followed-none, one_more, none_before, items_depth-more, members_depth-more}
use Rattle.cov_object.proofs.json_value.+next.Goals as goal

-- ---- a value

pub next_value-returns-in_err-token-clause-err : goal.next_value-returns-in_err-token-clause-err
next_value-returns-in_err-token-clause-err t c refused =
    let empty : c.args.reader.now ≡ [] = grind arith in
    ap (λ ts. converted of_json (value c.args.depth ts)) empty ∙ nothing-read c.args.depth

pub next_value-returns-in-Null-clause-ok : goal.next_value-returns-in-Null-clause-ok
next_value-returns-in-Null-clause-ok t c =
    let first : c.args.reader.now ≡ token_of c.in_ok-token.token ∷ c.next.new.self = grind arith in
    let is : c.args.reader.now ≡ Token.null ∷ c.next.new.self = grind (arith, first) in
    let seen : view Null ≡ null = search (rules, the_lemmas) in
    null-read c.args.depth c.args.reader.now c.next.new.self is ∙ ap (λ d. Some (d, c.next.new.self)) (sym seen)

pub next_value-returns-in-Bool-clause-ok : goal.next_value-returns-in-Bool-clause-ok
next_value-returns-in-Bool-clause-ok t c =
    let first : c.args.reader.now ≡ token_of c.in_ok-token.token ∷ c.next.new.self = grind arith in
    let is : c.args.reader.now ≡ Token.boolean c.in-Bool.flag ∷ c.next.new.self = grind (arith, first) in
    let seen : view (Bool c.in-Bool.flag) ≡ boolean c.in-Bool.flag = search (rules, the_lemmas) in
    boolean-read c.args.depth c.args.reader.now c.next.new.self c.in-Bool.flag is ∙ ap (λ d. Some (d, c.next.new.self)) (sym seen)

pub next_value-returns-in_ok-from_str-in-String-clause-ok : goal.next_value-returns-in_ok-from_str-in-String-clause-ok
next_value-returns-in_ok-from_str-in-String-clause-ok t c =
    let first : c.args.reader.now ≡ token_of c.in_ok-token.token ∷ c.next.new.self = grind arith in
    let text = c.in-String.text.now in
    let is : c.args.reader.now ≡ Token.string text ∷ c.next.new.self = grind (arith, first) in
    let seen : view (String c.in_ok-from_str-in-String.field-0) ≡ string text = search (rules, the_lemmas) in
    string-read c.args.depth c.args.reader.now c.next.new.self text is ∙ ap (λ d. Some (d, c.next.new.self)) (sym seen)

pub next_value-returns-in-Some-clause-ok : goal.next_value-returns-in-Some-clause-ok
next_value-returns-in-Some-clause-ok t c =
    let first : c.args.reader.now ≡ token_of c.in_ok-token.token ∷ c.next.new.self = grind arith in
    let text = c.in-Number.text.now in
    let is : c.args.reader.now ≡ Token.number text ∷ c.next.new.self = grind (arith, first) in
    let seen : view (Number c.in-Some.number) ≡ number (number_view c.in-Some.number) = search (rules, the_lemmas) in
    number-read c.args.depth c.args.reader.now c.next.new.self text is
    ∙ ap (option_map (λ n. (number n, c.next.new.self))) (sym c.in-Some.ensures)
    ∙ ap (λ d. Some (d, c.next.new.self)) (sym seen)

pub next_value-returns-in-None-clause-err : goal.next_value-returns-in-None-clause-err
next_value-returns-in-None-clause-err t c refused =
    let first : c.args.reader.now ≡ token_of c.in_ok-token.token ∷ c.next.new.self = grind arith in
    let text = c.in-Number.text.now in
    let is : c.args.reader.now ≡ Token.number text ∷ c.next.new.self = grind (arith, first) in
    number-read c.args.depth c.args.reader.now c.next.new.self text is ∙ ap (option_map (λ n. (number n, c.next.new.self))) (sym c.in-None.ensures)

pub next_value-returns-in-Key-clause-err : goal.next_value-returns-in-Key-clause-err
next_value-returns-in-Key-clause-err t c refused =
    let first : c.args.reader.now ≡ token_of c.in_ok-token.token ∷ c.next.new.self = grind arith in
    let none : value c.args.depth c.args.reader.now ≡ None = rw (value_is c.args.depth c.args.reader.now, first) (grind arith) in
    ap (converted of_json) none

pub next_value-returns-else-depth-gt0-clause-err : goal.next_value-returns-else-depth-gt0-clause-err
next_value-returns-else-depth-gt0-clause-err t c refused =
    let first : c.args.reader.now ≡ token_of c.in_ok-token.token ∷ c.next.new.self = grind arith in
    opens_nothing c.args.depth c.args.reader.now c.next.new.self (token_of c.in_ok-token.token) (omega arith) first (inl (ap token_of c.in-BeginArray.is))

pub next_value-returns-else-depth-gt0-2-clause-err : goal.next_value-returns-else-depth-gt0-2-clause-err
next_value-returns-else-depth-gt0-2-clause-err t c refused =
    let first : c.args.reader.now ≡ token_of c.in_ok-token.token ∷ c.next.new.self = grind arith in
    opens_nothing c.args.depth c.args.reader.now c.next.new.self (token_of c.in_ok-token.token) (omega arith) first (inr (ap token_of c.in-BeginObject.is))

pub next_value-returns-in_err-next_items-in-BeginArray-clause-err : goal.next_value-returns-in_err-next_items-in-BeginArray-clause-err
next_value-returns-in_err-next_items-in-BeginArray-clause-err t c refused =
    let first : c.args.reader.now ≡ token_of c.in_ok-token.token ∷ c.next.new.self = grind arith in
    opens_array c.args.depth c.args.reader.now c.next.new.self (omega arith) (first ∙ ap (λ k. token_of k ∷ c.next.new.self) c.in-BeginArray.is)
    ∙ ap (parse_map array) (c.next_items.ensures.err (grind arith))

pub next_value-returns-in_err-next_members-in-BeginObject-clause-err : goal.next_value-returns-in_err-next_members-in-BeginObject-clause-err
next_value-returns-in_err-next_members-in-BeginObject-clause-err t c refused =
    let first : c.args.reader.now ≡ token_of c.in_ok-token.token ∷ c.next.new.self = grind arith in
    opens_object c.args.depth c.args.reader.now c.next.new.self (omega arith) (first ∙ ap (λ k. token_of k ∷ c.next.new.self) c.in-BeginObject.is)
    ∙ ap (parse_map object) (c.next_members.ensures.err (grind arith))

pub next_value-returns-in_ok-next_items-in-BeginArray-clause-ok : goal.next_value-returns-in_ok-next_items-in-BeginArray-clause-ok
next_value-returns-in_ok-next_items-in-BeginArray-clause-ok t c =
    let first : c.args.reader.now ≡ token_of c.in_ok-token.token ∷ c.next.new.self = grind arith in
    let found = c.in_ok-next_items-in-BeginArray in
    opens_array c.args.depth c.args.reader.now c.next.new.self (omega arith) (first ∙ ap (λ k. token_of k ∷ c.next.new.self) c.in-BeginArray.is)
    ∙ ap (parse_map array) found.ensures.ok
    ∙ ap (λ d. Some (d, c.next_items.new.reader)) (sym (view-Array found.field-0))

pub next_value-returns-in_ok-next_members-in-BeginObject-clause-ok : goal.next_value-returns-in_ok-next_members-in-BeginObject-clause-ok
next_value-returns-in_ok-next_members-in-BeginObject-clause-ok t c =
    let first : c.args.reader.now ≡ token_of c.in_ok-token.token ∷ c.next.new.self = grind arith in
    let found = c.in_ok-next_members-in-BeginObject in
    opens_object c.args.depth c.args.reader.now c.next.new.self (omega arith) (first ∙ ap (λ k. token_of k ∷ c.next.new.self) c.in-BeginObject.is)
    ∙ ap (parse_map object) found.ensures.ok
    ∙ ap (λ d. Some (d, c.next_members.new.reader)) (sym (view-Object found.field-0))

-- ---- items

pub next_items-items-init : goal.next_items-items-init
next_items-items-init t c =
    let all = data_items (value c.args.depth) (length c.args.reader.now) c.args.reader.now in (
      length c.args.reader.now,
      omega arith,
      none_before all ∙ ap (λ vs. parse_map (followed (items_view vs)) all) (sym c.new-found.ensures.items),
      grind arith,
      omega arith,
    )

pub next_items-returns-in_err-value-clause-err : goal.next_items-returns-in_err-value-clause-err
next_items-returns-in_err-value-clause-err t c refused =
    let l = c.items in
    let going : (after_end_array l.reader ≡ None) × (c.take_end_array.new.self ≡ l.reader) = grind arith in
    l.invariant.2
    ∙ ap (parse_map (followed (items_view l.found.items)))
    (item_refused (value c.args.depth) l.invariant.0 l.reader going.0 (rw (← going.1) (c.next_value.ensures.err (grind arith))))

pub next_items-items-preserved : goal.next_items-items-preserved
next_items-items-preserved t c =
    let l = c.items in
    let n = l.invariant.0 in
    let going : (after_end_array l.reader ≡ None) × (c.take_end_array.new.self ≡ l.reader) = grind arith in
    let v = c.in_ok-value.value in
    let left = c.next_value.new.reader in
    let shorter : length left < length l.reader = rw (← going.1) c.in_ok-value.ensures.shorter in
    let turn = item_read (value c.args.depth) n l.reader left (view v) (omega (arith, l.invariant.1)) going.0 (rw (← going.1) c.in_ok-value.ensures.ok) in (
      n - 1,
      omega (arith, l.invariant.1),
      l.invariant.2
          ∙ ap (parse_map (followed (items_view l.found.items))) turn
          ∙ one_more l.found.items v _
          ∙ ap (λ vs. parse_map (followed (items_view vs)) (data_items (value c.args.depth) (n - 1) left)) (sym c.in_ok-push.ensures.items),
      rw c.in_ok-push.ensures.items (items_depth-more l.found.items v c.args.depth l.invariant.3 c.in_ok-value.ensures.nests),
      omega (arith, l.invariant.4),
    )

pub next_items-returns-clause-ok : goal.next_items-returns-clause-ok
next_items-returns-clause-ok t c =
    let l = c.items in
    let left = c.take_end_array.new.self in
    l.invariant.2
    ∙ ap (parse_map (followed (items_view l.found.items))) (items_over (value c.args.depth) l.invariant.0 l.reader left l.invariant.1 (grind arith))
    ∙ ap (λ ds. Some (ds, left)) (followed-none (items_view l.found.items))

-- ---- members

pub next_members-members-init : goal.next_members-members-init
next_members-members-init t c = (
  length c.args.reader.now,
  omega arith,
  ap (λ es. data_members (value c.args.depth) (length c.args.reader.now) (members_view es) c.args.reader.now) (sym c.new-found.ensures.empty),
  grind arith,
  omega arith,
)

pub next_members-returns-in_err-name-clause-err : goal.next_members-returns-in_err-name-clause-err
next_members-returns-in_err-name-clause-err t c refused =
    let l = c.members in
    l.invariant.2 ∙ key_refused (value c.args.depth) l.invariant.0 (members_view l.found.entries) l.reader c.in_err-name.ensures.value

pub next_members-returns-in_err-value-clause-err : goal.next_members-returns-in_err-value-clause-err
next_members-returns-in_err-value-clause-err t c refused =
    let l = c.members in
    let k = c.in-Some.name.now in
    let after = c.next_key.new.self in
    let named : read_key l.reader ≡ Some (Some k, after) = grind arith in
    l.invariant.2 ∙ member_refused (value c.args.depth) l.invariant.0 k (members_view l.found.entries) l.reader after named (c.next_value.ensures.err (grind arith))

pub next_members-members-preserved : goal.next_members-members-preserved
next_members-members-preserved t c =
    let l = c.members in
    let n = l.invariant.0 in
    let found = members_view l.found.entries in
    let k = c.in-Some.name.now in
    let after = c.next_key.new.self in
    let named : read_key l.reader ≡ Some (Some k, after) = grind arith in
    let v = c.in_ok-value.value in
    let left = c.next_value.new.reader in
    let key = c.in_ok-key.key in
    let shorter = read_key-shorter l.reader (Some k) after named in
    let shorter_yet = c.in_ok-value.ensures.shorter in
    let copied : string_bytes key ≡ k = search rules in
    let placed : members_view c.insert.new.self.entries ≡ put k (view v) found =
    ap members_view c.in_ok-insert.ensures.entries ∙ members_view-insert_entry l.found.entries key v ∙ ap (λ name. put name (view v) found) copied in (
      n - 1,
      omega (arith, l.invariant.1),
      l.invariant.2
          ∙ member_read (value c.args.depth) n k found l.reader after left (view v) (omega (arith, l.invariant.1)) named c.in_ok-value.ensures.ok
          ∙ ap (λ ms. data_members (value c.args.depth) (n - 1) ms left) (sym placed),
      rw c.in_ok-insert.ensures.entries (members_depth-more l.found.entries key v c.args.depth l.invariant.3 c.in_ok-value.ensures.nests),
      omega (arith, l.invariant.4),
    )

pub next_members-returns-clause-ok : goal.next_members-returns-clause-ok
next_members-returns-clause-ok t c =
    let l = c.members in
    l.invariant.2 ∙ members_over (value c.args.depth) l.invariant.0 (members_view l.found.entries) l.reader c.next_key.new.self l.invariant.1 (grind arith)
