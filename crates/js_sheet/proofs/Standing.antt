-- Where a sheet stands after one step and another.
use Rattle.std.proofs.Common.{◌≡◌, ◌∙◌, ℕ, ◌+◌, ◌-◌, ◌≤◌, Bool, true, false, List, [], ◌∷◌, ◌++◌, Option, Some, None, is_some, Result, Err, String, Vec, chars, refl, sym, ap, subst, arith, append-nil, append_assoc}
use Rattle.std.specs.String.{string_bytes}
use Rattle.std.specs.declared.alloc.Global.{Global}
use Rattle.js_terms.specs.declared.place.Loc.{Loc}
use Rattle.js_terms.specs.declared.place.Pos.{Pos}
use Rattle.js_text.specs.Token.{Kind, spelling}
use Rattle.js_spelling.specs.Written.{Written}
use Rattle.js_layout.specs.Tokens as tokens
use Rattle.cov_base.specs.Causes.{Rose}
use Rattle.cov_base.specs.Sink.{TakesPrefix}
use Rattle.cov_base.proofs.Moved.{prefix_longer}
use Rattle.js_sheet.specs.declared.fault.PrintFault.{PrintFault}
use Rattle.js_sheet.specs.declared.fault.PrintFault.TheVariants.{Memory}
use Rattle.js_sheet.specs.declared.left.Left.{Left}
use Rattle.js_sheet.specs.declared.left.Sort.{Sort}
use Rattle.js_sheet.specs.declared.sheet.Sheet as code
use Rattle.js_sheet.specs.declared.way.Way.TheVariants.{Whole}
use Rattle.js_sheet.specs.Fault.{HasPrintCause}
use Rattle.js_sheet.specs.Meeting.{first_of}
use Rattle.js_sheet.specs.Sheets.{Sheet, put, put_all, put_spelled, sort_of, left_after, due_after, with_text, with_gap, gap, kept}
use Rattle.js_sheet.specs.Stands.{At, at, Start, Stands, Turns, Puts}
use Rattle.js_sheet.specs.Ways.{Keeps}
use Rattle.js_sheet.proofs.Puts.{put_append}

none_of : {A : Type 0} (o : Option A) → is_some o ≡ false → o ≡ None
none_of None is = refl
none_of (Some x) is = absurd (cc)

some_isnt : {A B : Type 0} (o : Option A) → is_some o ≡ true → o ≡ None → B
some_isnt None is none = absurd (cc)
some_isnt (Some x) is none = absurd (cc)

rose_before : (first before now : ℕ) → first ≤ before → Rose before now → Rose first now
rose_before first before now le rose = omega arith

-- a step adds to the text
abbrev pub Grows : (Sheet → Sheet) → Type 0
Grows step = (s : Sheet) → (more : List ℕ) × ((step s).text ≡ s.text ++ more)

grown : (before after : Option (List ℕ)) (step : Sheet → Sheet) (s : Sheet) → Grows step → TakesPrefix before after s.text → TakesPrefix before after (step s).text
grown before after step s grows cut = subst (TakesPrefix before after) (sym (grows s).1) (prefix_longer before after s.text (grows s).0 cut)

-- after a fault nothing is written: what was taken stays a prefix
pub stays : (now : At) (step : Sheet → Sheet) → is_some now.sheet.fault ≡ true → Grows step → Turns now now step
stays now step failed grows = record {
  stands = λ start s h. record {
    way = h.way;
    all = λ none. some_isnt now.sheet.fault failed none;
    prefix = grown start.taken now.taken step s grows h.prefix;
    later = h.later;
    device = h.device;
  };
}

-- ---- the parts of a token

-- the gap, by what stands left
pub gap_turns : (old new : At) (first : Option ℕ) (bytes : List ℕ) → is_some old.sheet.fault ≡ false → gap old.sheet.left first ≡ bytes → Turns old new (with_text bytes) → Turns old new (with_gap first)
gap_turns old new first bytes none is turns = record {
  stands = λ start s h.
      subst (λ more. Stands start new (record s { text = s.text ++ more })) (sym is ∙ ap (λ l. gap l first) (h.all (none_of old.sheet.fault none)).left) (turns.stands start s h);
}

-- a gap, a mark and a spelling, and what stands left then
pub spelled : {old between before new : At} {first : Option ℕ} {source : Bool} {bytes : List ℕ} {l : Left} (sort : Sort) (in_source ends_line : Bool) → Turns old between (with_gap first) → Turns between before (kept source) → Turns before new (with_text bytes)
    → first ≡ first_of (chars bytes) → source ≡ in_source → l ≡ left_after sort bytes ends_line → Turns old (at (record new.sheet { left = l }) new.taken new.faults) (λ s. put_spelled s sort bytes in_source ends_line)
spelled {old} {between} {before} {new} {first} {source} {bytes} {l} sort in_source ends_line gap_turns kept_turns text_turns first_is source_is left_is = record {
  stands = λ start s h.
      let there = text_turns.stands start (kept source (with_gap first s)) (kept_turns.stands start (with_gap first s) (gap_turns.stands start s h)) in
      let made : Stands start (at (record new.sheet { left = l }) new.taken new.faults) (record (with_text bytes (kept source (with_gap first s))) { left = l }) = record {
        way = there.way;
        all = λ whole. let holds = there.all whole in record { left = refl; inserted = holds.inserted; due = holds.due; keeps = holds.keeps };
        prefix = there.prefix;
        later = there.later;
        device = there.device;
      } in
      let now = at (record new.sheet { left = l }) new.taken new.faults in
      subst (λ x. Stands start now (record (with_text bytes (kept in_source (with_gap (first_of (chars bytes)) s))) { left = x })) left_is
      (subst (λ b. Stands start now (record (with_text bytes (kept b (with_gap (first_of (chars bytes)) s))) { left = l })) source_is
      (subst (λ c. Stands start now (record (with_text bytes (kept source (with_gap c s))) { left = l })) first_is made));
}

due_none : (due : Option Pos) → due_after None due ≡ due
due_none None = refl
due_none (Some p) = refl

spelled_is : (s : Sheet) (place : Option Loc) (kind : Kind) (ends_line : Bool) → put_spelled s (sort_of kind) (spelling kind) (is_some place) ends_line ≡ put s (record { kind = kind; origin = tokens.origin_of place; ends_line = ends_line })
unfolding put
spelled_is s None kind ends_line = ap (λ d. put_spelled (record s { due = d }) (sort_of kind) (spelling kind) false ends_line) (sym (due_none s.due))
spelled_is s (Some l) kind ends_line = ap (λ d. put_spelled (record s { due = d }) (sort_of kind) (spelling kind) true ends_line) (sym (due_none s.due))

-- a token, by its spelling
pub puts_spelled : {old new : At} (place : Option Loc) (kind : Kind) (ends_line : Bool) (bytes : List ℕ) → bytes ≡ spelling kind → Turns old new (λ s. put_spelled s (sort_of kind) bytes (is_some place) ends_line)
    → Puts old new (record { kind = kind; origin = tokens.origin_of place; ends_line = ends_line } ∷ [])
puts_spelled {old} {new} place kind ends_line bytes is turns = record {
  stands = λ start s h.
      subst (Stands start new) (spelled_is s place kind ends_line) (subst (λ bs. Stands start new (put_spelled s (sort_of kind) bs (is_some place) ends_line)) is (turns.stands start s h));
}

-- ---- tokens, one after another

pub puts_none : (now : At) → Puts now now []
puts_none now = record { stands = λ start s h. h }

pub puts_on : (old mid new : At) (xs ys : List Written) → Puts old mid xs → Puts mid new ys → Puts old new (xs ++ ys)
puts_on old mid new xs ys first then = record { stands = λ start s h. subst (Stands start new) (sym (put_append s xs ys)) (then.stands start (put_all s xs) (first.stands start s h)) }

put_grows : (s : Sheet) (x : Written) → (put s x).text ≡ s.text ++ (gap s.left (first_of (chars (spelling x.kind))) ++ spelling x.kind)
unfolding put
put_grows s x = append_assoc s.text (gap s.left (first_of (chars (spelling x.kind)))) (spelling x.kind)

all_grow : (xs : List Written) → Grows (λ s. put_all s xs)
all_grow [] = λ s. ([], sym (append-nil s.text))
all_grow (x ∷ xs) = λ s.
    let more = gap s.left (first_of (chars (spelling x.kind))) ++ spelling x.kind in
    let rest = all_grow xs (put s x) in
    (more ++ rest.0, rest.1 ∙ ap (λ text. text ++ rest.0) (put_grows s x) ∙ append_assoc s.text more rest.0)

-- after want of memory nothing is written
pub wants : (old : code.Sheet) → is_some old.fault ≡ false → (taken : Option (List ℕ)) (faults : ℕ) (xs : List Written) → Puts (at old taken faults) (at (record old { fault = Some Memory }) taken faults) xs
wants old none taken faults xs = record {
  stands = λ start s h. record {
    way = h.way;
    all = λ whole. absurd (cc);
    prefix = grown start.taken taken (λ s. put_all s xs) s (all_grow xs) h.prefix;
    later = h.later;
    device = λ device. absurd (cc);
  };
}

pub wanted : (old : code.Sheet) → is_some old.fault ≡ true → (taken : Option (List ℕ)) (faults : ℕ) (xs : List Written) → Puts (at old taken faults) (at old taken faults) xs
wanted old failed taken faults xs = record { stands = (stays (at old taken faults) (λ s. put_all s xs) failed (all_grow xs)).stands }

-- a token of another kind, which is the same
pub puts_kind : {old new : At} {k m : Kind} (l : Option Loc) → m ≡ k → Puts old new (tokens.token l k ∷ []) → Puts old new (tokens.token l m ∷ [])
puts_kind {old} {new} {k} {m} l is puts = subst (λ kind. Puts old new (tokens.token l kind ∷ [])) (sym is) puts

-- ---- the end

pub whole_at : {start : Start} {now : At} {s : Sheet} {held : String Global} {offsets : Vec (ℕ × Option Pos) Global} → Stands start now s → is_some now.sheet.fault ≡ false → now.sheet.way ≡ Whole held offsets → (string_bytes held ≡ s.text) × (offsets.items ≡ s.marks)
whole_at {start} {now} {s} {held} {offsets} h none is =
    let keeps = subst (λ w. Keeps w start.taken now.taken s.text s.marks) is (h.all (none_of now.sheet.fault none)).keeps in (keeps.0, keeps.1)

-- a fault that is told
pub told : {start : Start} {now : At} {s : Sheet} {f : PrintFault} → now.sheet.fault ≡ Some f → Stands start now s → HasPrintCause {T = Unit {0}} start.faults now.faults (Err f)
told {start} {now} {s} {f} is h = record { later = h.later; device = λ device. h.device (cc) }

-- one of the last piece
pub told_last : {start : Start} {now : At} {s : Sheet} {after : ℕ} {result : Result (Unit {0}) PrintFault} → Stands start now s → HasPrintCause now.faults after result → HasPrintCause start.faults after result
told_last {start} {now} {s} {after} {result} h cause = record {
  later = let before = h.later in let rest = cause.later in omega arith;
  device = λ device. rose_before start.faults now.faults after h.later (cause.device device);
}

pub keeps_at : {start : Start} {now : At} {s : Sheet} → now.sheet.fault ≡ None → Stands start now s → Keeps now.sheet.way start.taken now.taken s.text s.marks
keeps_at {start} {now} {s} none h = (h.all none).keeps
