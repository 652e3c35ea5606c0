use Rattle.std.proofs.Common.{◌≡◌, ◌-◌, ◌<◌, [], ◌∷◌, length, Some, None, inl, inr, option_map, refl, sym, ap, ◌∙◌, arith}
use Rattle.std.proofs.lemmas.Result.{on_ok_weaker, on_err_weaker}
use Rattle.json.specs.Token.{Token}
use Rattle.json.specs.Json.{parse_map, after_end_array, read_key, value}
use Rattle.json.specs.Reads.{token_of}
use Rattle.json.proofs.Grammar.{value_is, read_key-shorter}
use Rattle.serde_json.specs.Data.{number, array, object, item, no_members, put}
use Rattle.serde_json.specs.Find.{as_object}
use Rattle.serde_json.specs.Read.{of_json, converted}
use Rattle.cov_object.specs.private.ByMember.{left}
use Rattle.cov_object.proofs.JsonValue.{data_of, data_items, data_members, opens_array, opens_object, opens_nothing, null-read, boolean-read, string-read, number-read, nothing-read, item_read, item_refused, items_over, member_read, member_refused, key_refused, members_over}
use Rattle.cov_object.proofs.ByMember.{left-some, left-none, left-mapped, on_err-any}
use Rattle.cov_object.proofs.skip.+skip.Goals as goal

-- ---- a value

pub enter_object-returns-in_err-token-clause-err : goal.enter_object-returns-in_err-token-clause-err
enter_object-returns-in_err-token-clause-err t c =
    let empty : c.args.reader.now ≡ [] = grind arith in
    on_err-any _ (ap (λ ts. converted of_json (value c.args.depth ts)) empty ∙ nothing-read c.args.depth)

pub enter_object-returns-in-Null-clause-other : goal.enter_object-returns-in-Null-clause-other
enter_object-returns-in-Null-clause-other t c other =
    let first : c.args.reader.now ≡ token_of c.in_ok-token.token ∷ c.next.new.self = grind arith in
    let is : c.args.reader.now ≡ Token.null ∷ c.next.new.self = grind (arith, first) in
    ap (parse_map as_object) (null-read c.args.depth c.args.reader.now c.next.new.self is)

pub enter_object-returns-in-Bool-clause-other : goal.enter_object-returns-in-Bool-clause-other
enter_object-returns-in-Bool-clause-other t c other =
    let first : c.args.reader.now ≡ token_of c.in_ok-token.token ∷ c.next.new.self = grind arith in
    let is : c.args.reader.now ≡ Token.boolean c.in-Bool.field-0 ∷ c.next.new.self = grind (arith, first) in
    ap (parse_map as_object) (boolean-read c.args.depth c.args.reader.now c.next.new.self c.in-Bool.field-0 is)

pub enter_object-returns-in-String-clause-other : goal.enter_object-returns-in-String-clause-other
enter_object-returns-in-String-clause-other t c other =
    let first : c.args.reader.now ≡ token_of c.in_ok-token.token ∷ c.next.new.self = grind arith in
    let text = c.in-String.field-0.now in
    let is : c.args.reader.now ≡ Token.string text ∷ c.next.new.self = grind (arith, first) in
    ap (parse_map as_object) (string-read c.args.depth c.args.reader.now c.next.new.self text is)

pub enter_object-returns-in-Some-clause-other : goal.enter_object-returns-in-Some-clause-other
enter_object-returns-in-Some-clause-other t c other =
    let first : c.args.reader.now ≡ token_of c.in_ok-token.token ∷ c.next.new.self = grind arith in
    let text = c.in-Number.text.now in
    let is : c.args.reader.now ≡ Token.number text ∷ c.next.new.self = grind (arith, first) in
    ap (parse_map as_object) (number-read c.args.depth c.args.reader.now c.next.new.self text is ∙ ap (option_map (λ n. (number n, c.next.new.self))) (sym c.in-Some.ensures))

pub enter_object-returns-in-None-clause-err : goal.enter_object-returns-in-None-clause-err
enter_object-returns-in-None-clause-err t c =
    let first : c.args.reader.now ≡ token_of c.in_ok-token.token ∷ c.next.new.self = grind arith in
    let text = c.in-Number.text.now in
    let is : c.args.reader.now ≡ Token.number text ∷ c.next.new.self = grind (arith, first) in
    number-read c.args.depth c.args.reader.now c.next.new.self text is ∙ ap (option_map (λ n. (number n, c.next.new.self))) (sym c.in-None.ensures)

pub enter_object-returns-in-Key-clause-err : goal.enter_object-returns-in-Key-clause-err
enter_object-returns-in-Key-clause-err t c =
    let first : c.args.reader.now ≡ token_of c.in_ok-token.token ∷ c.next.new.self = grind arith in
    let none : value c.args.depth c.args.reader.now ≡ None = rw (value_is c.args.depth c.args.reader.now, first) (grind arith) in
    ap (converted of_json) none

pub enter_object-returns-else-depth-gt0-clause-err : goal.enter_object-returns-else-depth-gt0-clause-err
enter_object-returns-else-depth-gt0-clause-err t c =
    let first : c.args.reader.now ≡ token_of c.in_ok-token.token ∷ c.next.new.self = grind arith in
    opens_nothing c.args.depth c.args.reader.now c.next.new.self (token_of c.in_ok-token.token) (omega arith) first (inl (ap token_of c.in-BeginArray.is))

pub enter_object-returns-else-depth-gt0-2-clause-err : goal.enter_object-returns-else-depth-gt0-2-clause-err
enter_object-returns-else-depth-gt0-2-clause-err t c =
    let first : c.args.reader.now ≡ token_of c.in_ok-token.token ∷ c.next.new.self = grind arith in
    opens_nothing c.args.depth c.args.reader.now c.next.new.self (token_of c.in_ok-token.token) (omega arith) first (inr (ap token_of c.in-BeginObject.is))

pub enter_object-returns-in_err-skip_items-in-BeginArray-clause-err : goal.enter_object-returns-in_err-skip_items-in-BeginArray-clause-err
enter_object-returns-in_err-skip_items-in-BeginArray-clause-err t c =
    let first : c.args.reader.now ≡ token_of c.in_ok-token.token ∷ c.next.new.self = grind arith in
    on_err-any _
    (opens_array c.args.depth c.args.reader.now c.next.new.self (omega arith) (first ∙ ap (λ k. token_of k ∷ c.next.new.self) c.in-BeginArray.is)
    ∙ ap (parse_map array) c.in_err-skip_items-in-BeginArray.ensures.err)

pub enter_object-returns-in_ok-skip_items-in-BeginArray-clause-other : goal.enter_object-returns-in_ok-skip_items-in-BeginArray-clause-other
enter_object-returns-in_ok-skip_items-in-BeginArray-clause-other t c other =
    let first : c.args.reader.now ≡ token_of c.in_ok-token.token ∷ c.next.new.self = grind arith in
    let items = left-some (data_items (value (c.args.depth - 1)) (length c.next.new.self) c.next.new.self) c.skip_items.new.reader c.in_ok-skip_items-in-BeginArray.ensures.ok in
    ap (parse_map as_object)
    (opens_array c.args.depth c.args.reader.now c.next.new.self (omega arith) (first ∙ ap (λ k. token_of k ∷ c.next.new.self) c.in-BeginArray.is)
    ∙ ap (parse_map array) items.1)

-- ---- items

pub skip_items-items-init : goal.skip_items-items-init
skip_items-items-init t c = (length c.args.reader.now, omega arith, refl, omega arith)

pub skip_items-returns-in_err-skip_value-clause-err : goal.skip_items-returns-in_err-skip_value-clause-err
skip_items-returns-in_err-skip_value-clause-err t c =
    let l = c.items in
    let going : (after_end_array l.reader ≡ None) × (c.take_end_array.new.self ≡ l.reader) = grind arith in
    on_err-any _
    (left-none (data_items (value c.args.depth) (length c.args.reader.now) c.args.reader.now)
    (l.invariant.2 ∙ ap left (item_refused (value c.args.depth) l.invariant.0 l.reader going.0 (rw (← going.1) c.in_err-skip_value.ensures.err))))

pub skip_items-items-preserved : goal.skip_items-items-preserved
skip_items-items-preserved t c =
    let l = c.items in
    let n = l.invariant.0 in
    let going : (after_end_array l.reader ≡ None) × (c.take_end_array.new.self ≡ l.reader) = grind arith in
    let rest = c.skip_value.new.reader in
    let shorter : length rest < length l.reader = rw (← going.1) c.in_ok-skip_value.ensures.shorter in
    let read = left-some (data_of (value c.args.depth) l.reader) rest (rw (← going.1) c.in_ok-skip_value.ensures.ok) in
    let turn = item_read (value c.args.depth) n l.reader rest read.0 (omega (arith, l.invariant.1)) going.0 read.1 in (
      n - 1,
      omega (arith, l.invariant.1),
      l.invariant.2 ∙ ap left turn ∙ left-mapped (item read.0) (data_items (value c.args.depth) (n - 1) rest),
      omega (arith, l.invariant.3),
    )

pub skip_items-returns-clause-ok : goal.skip_items-returns-clause-ok
skip_items-returns-clause-ok t c =
    let l = c.items in
    l.invariant.2 ∙ ap left (items_over (value c.args.depth) l.invariant.0 l.reader c.take_end_array.new.self l.invariant.1 (grind arith))

-- ---- members

pub skip_members-members-init : goal.skip_members-members-init
skip_members-members-init t c = (length c.args.reader.now, no_members, omega arith, refl, omega arith)

pub skip_members-returns-in_err-next_key-clause-err : goal.skip_members-returns-in_err-next_key-clause-err
skip_members-returns-in_err-next_key-clause-err t c =
    let l = c.members in
    on_err-any _
    (left-none (data_members (value c.args.depth) (length c.args.reader.now) no_members c.args.reader.now)
    (l.invariant.3 ∙ ap left (key_refused (value c.args.depth) l.invariant.0 l.invariant.1 l.reader c.in_err-next_key.ensures.value)))

pub skip_members-returns-in_err-skip_value-clause-err : goal.skip_members-returns-in_err-skip_value-clause-err
skip_members-returns-in_err-skip_value-clause-err t c =
    let l = c.members in
    let k = c.in-Some.field-0.now in
    let after = c.next_key.new.self in
    let named : read_key l.reader ≡ Some (Some k, after) = grind arith in
    on_err-any _
    (left-none (data_members (value c.args.depth) (length c.args.reader.now) no_members c.args.reader.now)
    (l.invariant.3 ∙ ap left (member_refused (value c.args.depth) l.invariant.0 k l.invariant.1 l.reader after named c.in_err-skip_value.ensures.err)))

pub skip_members-members-preserved : goal.skip_members-members-preserved
skip_members-members-preserved t c =
    let l = c.members in
    let n = l.invariant.0 in
    let k = c.in-Some.field-0.now in
    let after = c.next_key.new.self in
    let named : read_key l.reader ≡ Some (Some k, after) = grind arith in
    let rest = c.skip_value.new.reader in
    let shorter = read_key-shorter l.reader (Some k) after named in
    let shorter_yet = c.in_ok-skip_value.ensures.shorter in
    let read = left-some (data_of (value c.args.depth) after) rest c.in_ok-skip_value.ensures.ok in (
      n - 1,
      put k read.0 l.invariant.1,
      omega (arith, l.invariant.2),
      l.invariant.3 ∙ ap left (member_read (value c.args.depth) n k l.invariant.1 l.reader after rest read.0 (omega (arith, l.invariant.2)) named read.1),
      omega (arith, l.invariant.4),
    )

pub skip_members-returns-clause-ok : goal.skip_members-returns-clause-ok
skip_members-returns-clause-ok t c =
    let l = c.members in
    l.invariant.3 ∙ ap left (members_over (value c.args.depth) l.invariant.0 l.invariant.1 l.reader c.next_key.new.self l.invariant.2 (grind arith))

-- ---- any value

pub skip_value-returns-then-entered-clause-ok : goal.skip_value-returns-then-entered-clause-ok
skip_value-returns-then-entered-clause-ok t c =
    let rest = c.enter_object.new.reader in
    let whole = opens_object c.args.depth c.args.reader.now rest (c.enter_object.ensures.deep (grind arith)) (c.enter_object.ensures.object (grind arith)) in
    on_ok_weaker c.skip_members.result
    (λ e. ap left whole ∙ left-mapped object (data_members (value (c.args.depth - 1)) (length rest) no_members rest) ∙ e)
    c.skip_members.ensures.ok

pub skip_value-returns-then-entered-clause-err : goal.skip_value-returns-then-entered-clause-err
skip_value-returns-then-entered-clause-err t c =
    let rest = c.enter_object.new.reader in
    let whole = opens_object c.args.depth c.args.reader.now rest (c.enter_object.ensures.deep (grind arith)) (c.enter_object.ensures.object (grind arith)) in
    on_err_weaker c.skip_members.result (λ e. whole ∙ ap (parse_map object) e) c.skip_members.ensures.err

pub skip_value-returns-else-entered-clause-ok : goal.skip_value-returns-else-entered-clause-ok
skip_value-returns-else-entered-clause-ok t c =
    sym (left-mapped as_object (data_of (value c.args.depth) c.args.reader.now)) ∙ ap left (c.enter_object.ensures.other (grind arith))
