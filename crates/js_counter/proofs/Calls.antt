-- The call of the replaced function, and the counters.
use Rattle.std.proofs.Common.{◌≡◌, ℕ, zero, suc, ◌<◌, false, List, [], ◌∷◌, Option, Some, None, refl, sym, ap, subst, ◌∙◌, arith, pos}
use Rattle.js_terms.specs.declared.place.Loc.{Loc}
use Rattle.js_terms.specs.declared.operators.UpdateOperator.TheVariants.{Increment}
use Rattle.js_value.specs.declared.value.Value.{Value}
use Rattle.js_value.specs.declared.value.Primitive.TheVariants as primitive
use Rattle.js_value.specs.State.{Environment, Heap, Store}
use Rattle.js_value.specs.Objects.{count_value}
use Rattle.js_value.specs.Environments.{next_environment, no_binding, environment_at, place_of, resolved, lookup, value_of}
use Rattle.js_value.specs.Numbers.{literal_number}
use Rattle.js_value.specs.Functions.{name_units}
use Rattle.js_value.specs.Realm.{object, text, undefined}
use Rattle.js_value.specs.Running.{on_heap}
use Rattle.js_meaning.specs.declared.outcome.Completion.{Completion}
use Rattle.js_meaning.specs.declared.outcome.Completion.TheVariants.{Normal, Return}
use Rattle.js_meaning.specs.Effects.{Entry, Call, Comp, ret, handle}
use Rattle.js_meaning.specs.Steps.{Stopped, eval}
use Rattle.js_meaning.specs.Program.{Sources, function_at}
use Rattle.std.specs.Prelude.{slice_index_or}
use Rattle.js_meaning.specs.Meaning.{Member, with_value, read, call, get_member_of, number, number_value, updates, comp_expr}
use Rattle.js_meaning.specs.Files.{inside, this_bound, comp_coded, call_code, after_call}
use Rattle.js_meaning.specs.Points.{Point, Comes, Asks, point, onward, TakesOne}
use Rattle.js_counter.specs.Represents.{Placed, Holds, Within, child, value_at}
use Rattle.js_counter.specs.Represents as R
use Rattle.js_counter.specs.Steady.{actual, gives_actual, call_of, counter_two, counter_three, Spells, index_key, Ready, called, CallsSteadily, CountsTwo, CountsThree, HoldsTicked}
use Rattle.js_meaning.proofs.Handle.{handle_again}
use Rattle.js_meaning.proofs.PointLemmas.{point_handle, reads_name, asks_call, takes_one}
use Rattle.js_counter.proofs.Heaps.{pushed, env_of, at_top, below_top, scope_is, looked_out}
use Rattle.js_counter.proofs.Data.{child_on}
use Rattle.js_counter.proofs.Points.{reads, counts, put_done}
use Rattle.js_counter.proofs.Ticks.{ticks}

abbrev this_env : ℕ → Environment
this_env inner = env_of inner (this_bound undefined)

-- the body of the replaced function
module _ (p : Sources) (s : Store) (code inner number : ℕ) (a b c : Option Loc) (place : ℕ) (v : Value)
    (is_code : function_at p code ≡ Some (gives_actual number a b c)) (low : inner < next_environment s.heap)
    (named : place_of (environment_at s.heap inner) actual ≡ Some place)
    (held : value_of s.heap (record { environment = inner; place = place }) ≡ Some v) where
  abbrev top : Heap
  top = pushed (this_env inner) s.heap

  abbrev e : ℕ
  e = next_environment s.heap

  finds : lookup top e actual ≡ Some (record { environment = inner; place = place })
  finds = looked_out top e actual (this_env inner) (at_top (this_env inner) s.heap) refl ∙ deeper (next_environment s.heap) low
    where
      deeper : (n : ℕ) → inner < n → resolved n top.environments (Some inner) actual ≡ Some (record { environment = inner; place = place })
      deeper zero l = absurd (omega arith)
      deeper (suc n) l =
          ap (λ (x : Environment). elim (place_of x actual) [ Some at ↦ Some (record { environment = inner; place = at }) | None ↦ resolved n top.environments (environment_at top inner).outer actual ]) (below_top (this_env inner) s.heap inner low)
          ∙ ap (λ o. elim o [ Some at ↦ Some (record { environment = inner; place = at }) | None ↦ resolved n top.environments (environment_at top inner).outer actual ]) named

  still : value_of top (record { environment = inner; place = place }) ≡ Some v
  still = ap (λ (x : Environment). (slice_index_or x.bindings place no_binding).value) (below_top (this_env inner) s.heap inner low) ∙ held

  abbrev returns : Heap → Point
  returns h = point (handle (handle (read actual e) (with_value (λ v. ret (Return v)))) after_call) (record s { heap = h })

  pub body_gives : point (call_code p code inner undefined []) s ≡ Comes (Normal v) (on_heap (called inner) s)
  body_gives =
      ap (λ o. point (handle (comp_coded p o inner undefined []) after_call) s) is_code
      ∙ ap returns (scope_is (this_bound undefined) inner s.heap)
      ∙ point_handle (handle (read actual e) (with_value (λ v. ret (Return v)))) after_call (record s { heap = top })
      ∙ ap (λ r. onward r after_call) (point_handle (read actual e) (with_value (λ v. ret (Return v))) (record s { heap = top }))
      ∙ ap (λ r. onward (onward r (with_value (λ v. ret (Return v)))) after_call) (reads_name (record s { heap = top }) actual e _ v finds still)
      ∙ ap (λ h. Comes (Normal v) (record s { heap = h })) (sym (scope_is (this_bound undefined) inner s.heap))

module _ (p : Sources) (env : ℕ) (name : List ℕ) (v : Value) (s : Store) (r : Ready p s.heap env name v) where
  abbrev ask : Entry
  ask = Call r.code r.inner undefined []

  -- N() asks for the step of its call
  asks_name : point (comp_expr p (call_of name) env) s ≡ Asks ask ret s
  asks_name = point_handle (read name env) (with_value (λ f. call f undefined [])) s
      ∙ ap (λ q. onward q (with_value (λ f. call f undefined []))) (reads_name s name env r.cell (object r.function) r.found r.bound)
      ∙ asks_call s r.function r.code r.inner undefined [] r.kind

  gives_name : point (inside p ask) s ≡ Comes (Normal v) (on_heap (called r.inner) s)
  gives_name = body_gives p s r.code r.inner r.number r.a r.b r.c r.place v r.is_code r.low r.named r.held

  calls : TakesOne p (comp_expr p (call_of name) env) s v (on_heap (called r.inner) s)
  calls = takes_one p _ s ask ret v v _ _ asks_name gives_name refl

  -- the call, and then what comes to a value
  one_then : (k : Completion → Comp) (w : Value) (t : Store) → point (k (Normal v)) (on_heap (called r.inner) s) ≡ Comes (Normal w) t →
      TakesOne p (handle (comp_expr p (call_of name) env) k) s w t
  one_then k w t after = takes_one p _ s ask k v w (on_heap (called r.inner) s) t
      (point_handle (comp_expr p (call_of name) env) k s ∙ ap (λ q. onward q k) asks_name) gives_name after

  two_then : (k l : Completion → Comp) (w : Value) (t : Store) → point (handle (k (Normal v)) l) (on_heap (called r.inner) s) ≡ Comes (Normal w) t →
      TakesOne p (handle (handle (comp_expr p (call_of name) env) k) l) s w t
  two_then k l w t after = takes_one p _ s ask (λ c. handle (k c) l) v w (on_heap (called r.inner) s) t
      (point_handle (handle (comp_expr p (call_of name) env) k) l s ∙ ap (λ q. onward q l)
      (point_handle (comp_expr p (call_of name) env) k s ∙ ap (λ q. onward q k) asks_name)) gives_name after

  three_then : (k l m : Completion → Comp) (w : Value) (t : Store) → point (handle (handle (k (Normal v)) l) m) (on_heap (called r.inner) s) ≡ Comes (Normal w) t →
      TakesOne p (handle (handle (handle (comp_expr p (call_of name) env) k) l) m) s w t
  three_then k l m w t after = takes_one p _ s ask (λ c. handle (handle (k c) l) m) v w (on_heap (called r.inner) s) t
      (point_handle (handle (handle (comp_expr p (call_of name) env) k) l) m s ∙ ap (λ q. onward q m)
      (point_handle (handle (comp_expr p (call_of name) env) k) l s ∙ ap (λ q. onward q l)
      (point_handle (comp_expr p (call_of name) env) k s ∙ ap (λ q. onward q k) asks_name))) gives_name after

pub calls_steadily : CallsSteadily
calls_steadily p env name v s r = calls p env name v s r

-- what begins with the call stops where no step is left, whatever follows
module _ (p : Sources) (env : ℕ) (name : List ℕ) (v : Value) (s : Store) (r : Ready p s.heap env name v) where
  abbrev Stops : Comp → Type 0
  Stops c = (next : Completion → Comp) → eval (inside p) 0 (handle c next) s ≡ Stopped s

  stops_then : (c : Comp) (k : Completion → Comp) → Stops c → Stops (handle c k)
  stops_then c k stops next = ap (λ d. eval (inside p) 0 d s) (handle_again c k next) ∙ stops (λ o. handle (k o) next)

  pub stops_two : (member spelled : List ℕ) → Stops (comp_expr p (counter_two name member spelled) env)
  stops_two member spelled =
      let call = comp_expr p (call_of name) env in
      let first = with_value (λ base. get_member_of base (text (name_units member))) in
      let second = with_value (λ base. handle (number (literal_number spelled)) (with_value (λ key. updates false Increment env (Member base key)))) in
      stops_then (handle call first) second (stops_then call first (calls p env name v s r).none)

  pub stops_three : (member spelled spelled_path : List ℕ) → Stops (comp_expr p (counter_three name member spelled spelled_path) env)
  stops_three member spelled spelled_path =
      let call = comp_expr p (call_of name) env in
      let first = with_value (λ base. get_member_of base (text (name_units member))) in
      let second = with_value (λ base. handle (number (literal_number spelled)) (with_value (get_member_of base))) in
      let third = with_value (λ base. handle (number (literal_number spelled_path)) (with_value (λ key. updates false Increment env (Member base key)))) in
      stops_then (handle (handle call first) second) third (stops_then (handle call first) second (stops_then call first (calls p env name v s r).none))

-- the environment of the call leaves the data as it was
holds_called : (h : Heap) (inner : ℕ) (x : Placed) → Holds h x → Holds (called inner h) x
holds_called h inner x a = subst (λ k. Holds k x) (sym (scope_is (this_bound undefined) inner h)) a

index : (spelled : List ℕ) (i : ℕ) (next : Value → Comp) (s : Store) (z : Point) → Spells spelled i → point (next (number_value (pos i))) s ≡ z →
    point (handle (number (literal_number spelled)) (with_value next)) s ≡ z
index spelled i next s z e f = ap (λ o. point (handle (number o) (with_value next)) s) e ∙ f

pub counts_two : CountsTwo
counts_two p env name member spelled i n x y s r spells low holds w =
    let t = on_heap (called r.inner) s in
    let held : Holds t.heap x = holds_called s.heap r.inner x holds in
    two_then p env name (value_at x) s r (with_value (λ base. get_member_of base (text (name_units member))))
    (with_value (λ base. handle (number (literal_number spelled)) (with_value (λ key. updates false Increment env (Member base key)))))
    (count_value n) _
    (point_handle (get_member_of (value_at x) (text (name_units member))) (with_value (λ base. handle (number (literal_number spelled)) (with_value (λ key. updates false Increment env (Member base key))))) t
    ∙ ap (λ q. onward q (with_value (λ base. handle (number (literal_number spelled)) (with_value (λ key. updates false Increment env (Member base key))))))
    (reads t x (primitive.Text (name_units member)) w.0 w.1 held)
    ∙ index spelled i (λ key. updates false Increment env (Member (value_at w.0) key)) t _ spells
    (ap (λ z. point (updates false Increment env (Member (value_at z) (number_value (pos i)))) t) w.2.0
    ∙ counts t env y (primitive.Number (pos i)) n (subst (λ z. child (index_key i) z ≡ Some (R.number n)) w.2.0 w.2.2) low
    (subst (Holds t.heap) w.2.0 (child_on _ x (name_units member) w.0 w.1 held))))

pub counts_three : CountsThree
counts_three p env name member spelled spelled_path i k n x y s r spells spells_path low holds w =
    let t = on_heap (called r.inner) s in
    let held : Holds t.heap x = holds_called s.heap r.inner x holds in
    let first = with_value (λ base. get_member_of base (text (name_units member))) in
    let second = with_value (λ base. handle (number (literal_number spelled)) (with_value (get_member_of base))) in
    let third = with_value (λ base. handle (number (literal_number spelled_path)) (with_value (λ key. updates false Increment env (Member base key)))) in
    let z = w.0 in
    let u = w.2.0 in
    let z_held : Holds t.heap w.0 = child_on _ x (name_units member) w.0 w.1 held in
    let u_held : Holds t.heap w.2.0 = child_on _ w.0 (index_key i) w.2.0 w.2.1 z_held in
    three_then p env name (value_at x) s r first second third (count_value n) _
    (point_handle (handle (get_member_of (value_at x) (text (name_units member))) second) third t
    ∙ ap (λ q. onward q third) (point_handle (get_member_of (value_at x) (text (name_units member))) second t
    ∙ ap (λ q. onward q second) (reads t x (primitive.Text (name_units member)) w.0 w.1 held)
    ∙ index spelled i (get_member_of (value_at w.0)) t _ spells (reads t w.0 (primitive.Number (pos i)) w.2.0 w.2.1 z_held))
    ∙ index spelled_path k (λ key. updates false Increment env (Member (value_at w.2.0) key)) t _ spells_path
    (ap (λ z. point (updates false Increment env (Member (value_at z) (number_value (pos k)))) t) w.2.2.0
    ∙ counts t env y (primitive.Number (pos k)) n (subst (λ z. child (index_key k) z ≡ Some (R.number n)) w.2.2.0 w.2.2.2) low
    (subst (Holds t.heap) w.2.2.0 u_held)))

-- the container at the end of a way holds what it holds
within_holds : (h : Heap) (keys : List (List ℕ)) (x : Placed) (key : List ℕ) (y : Placed) (last : List ℕ) (n : ℕ) → Within x key keys y last n → Holds h x → Holds h y
within_holds h [] x key y last n w a = subst (Holds h) w.0 a
within_holds h (k ∷ ks) x key y last n w a = within_holds h ks w.0 k y last n w.2 (child_on _ x key w.0 w.1 a)

within_child : (keys : List (List ℕ)) (x : Placed) (key : List ℕ) (y : Placed) (last : List ℕ) (n : ℕ) → Within x key keys y last n → child last y ≡ Some (R.number n)
within_child [] x key y last n w = subst (λ z. child last z ≡ Some (R.number n)) w.0 (subst (λ l. child l x ≡ Some (R.number n)) w.1 w.2)
within_child (k ∷ ks) x key y last n w = within_child ks w.0 k y last n w.2

pub holds_ticked : HoldsTicked
holds_ticked h inner n x y key keys last a d w =
    let b : Holds (called inner h) x = holds_called h inner x a in
    ticks (called inner h) _ n keys x key y last w
    (put_done (called inner h) y last n (within_child keys x key y last n w) (within_holds (called inner h) keys x key y last n w b)) b d
