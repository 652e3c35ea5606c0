-- Texts of files, one after another.
use Rattle.std.proofs.Common.{◌≡◌, ℕ, ◌≤◌, ◌-◌, arith, drop, take, get_or, length, true, false, List, [], ◌∷◌, ◌++◌, map, Bor, refl, sym, ap, ◌∙◌, append_assoc, append-nil, codes}
use Rattle.std.specs.List.{flat_map}
use Rattle.std.proofs.lemmas.List.{take_all}
use Rattle.cov_object.specs.declared.file.FileCoverage.{FileCoverage}
use Rattle.cov_object.specs.Files.{AreInOrder}
use Rattle.cov_object.specs.Json.{file_member, json_text}
use Rattle.cov_object.proofs.WriteLemmas.{by_members}
use Rattle.cov_summary.specs.Sums.{file_sums, summary_of}
use Rattle.cov_report.specs.JsonSummary.{file_text, json_summary_text, sums_text}
use Rattle.cov_report.specs.Table.{file_row, header, row, rule, table_text, width_of}

-- one more file
pub text-more : (f : FileCoverage → List ℕ) (files : List (Bor FileCoverage)) (file : Bor FileCoverage) →
    flat_map f (map (λ file. file.now) (files ++ file ∷ [])) ≡ flat_map f (map (λ file. file.now) files) ++ f file.now
text-more f [] file = append-nil (f file.now)
text-more f (other ∷ files) file = ap (λ text. f other.now ++ text) (text-more f files file) ∙ sym (append_assoc (f other.now) (flat_map f (map (λ file. file.now) files)) (f file.now))

-- ---- pieces, one after another

pub four : (a b c d o0 o1 o2 o3 o4 : List ℕ) → o1 ≡ o0 ++ a → o2 ≡ o1 ++ b → o3 ≡ o2 ++ c → o4 ≡ o3 ++ d → o4 ≡ o0 ++ (a ++ (b ++ (c ++ d)))
four a b c d o0 o1 o2 o3 o4 e1 e2 e3 e4 = rw (e4, e3, e2, e1) (simp append_assoc)

pub five : (a b c d e o0 o1 o2 o3 o4 o5 : List ℕ) → o1 ≡ o0 ++ a → o2 ≡ o1 ++ b → o3 ≡ o2 ++ c → o4 ≡ o3 ++ d → o5 ≡ o4 ++ e →
    o5 ≡ o0 ++ (a ++ (b ++ (c ++ (d ++ e))))
five a b c d e o0 o1 o2 o3 o4 o5 e1 e2 e3 e4 e5 = rw (e5, e4, e3, e2, e1) (simp append_assoc)

pub six : (a b c d e f o0 o1 o2 o3 o4 o5 o6 : List ℕ) → o1 ≡ o0 ++ a → o2 ≡ o1 ++ b → o3 ≡ o2 ++ c → o4 ≡ o3 ++ d → o5 ≡ o4 ++ e → o6 ≡ o5 ++ f →
    o6 ≡ o0 ++ (a ++ (b ++ (c ++ (d ++ (e ++ f)))))
six a b c d e f o0 o1 o2 o3 o4 o5 o6 e1 e2 e3 e4 e5 e6 = rw (e6, e5, e4, e3, e2, e1) (simp append_assoc)

pub seven : (a b c d e f g o0 o1 o2 o3 o4 o5 o6 o7 : List ℕ) → o1 ≡ o0 ++ a → o2 ≡ o1 ++ b → o3 ≡ o2 ++ c → o4 ≡ o3 ++ d → o5 ≡ o4 ++ e → o6 ≡ o5 ++ f → o7 ≡ o6 ++ g →
    o7 ≡ o0 ++ (a ++ (b ++ (c ++ (d ++ (e ++ (f ++ g))))))
seven a b c d e f g o0 o1 o2 o3 o4 o5 o6 o7 e1 e2 e3 e4 e5 e6 e7 = rw (e7, e6, e5, e4, e3, e2, e1) (simp append_assoc)

-- ---- whole reports

members : (files : List FileCoverage) → flat_map (λ file. file_text (file_sums file)) files ≡ flat_map file_text (map file_sums files)
members [] = refl
members (file ∷ files) = ap (λ rest. file_text (file_sums file) ++ rest) (members files)

-- what stands before the files, the files, and what stands after them
pub summary_is : (files lent : List FileCoverage) (start : List ℕ) → start ≡ codes "{\"total\":" ++ sums_text (summary_of files).total → lent ≡ files →
    start ++ (flat_map (λ file. file_text (file_sums file)) lent ++ codes "}\n") ≡ json_summary_text files
summary_is files lent start starts same =
    ap (λ text. text ++ (flat_map (λ file. file_text (file_sums file)) lent ++ codes "}\n")) starts
    ∙ append_assoc (codes "{\"total\":") (sums_text (summary_of files).total) (flat_map (λ file. file_text (file_sums file)) lent ++ codes "}\n")
    ∙ ap (λ text. codes "{\"total\":" ++ (sums_text (summary_of files).total ++ (text ++ codes "}\n"))) (ap (flat_map (λ file. file_text (file_sums file))) same ∙ members files)

pub table_is : (files lent : List FileCoverage) (width : ℕ) (start end : List ℕ) → width ≡ width_of files →
    start ≡ rule width ++ (header width ++ (rule width ++ row width (codes "All files") (summary_of files).total [])) → lent ≡ files → end ≡ rule width →
    start ++ (flat_map (file_row width) lent ++ end) ≡ table_text files
table_is files lent width start end wide starts same ends =
    ap (λ text. text ++ (flat_map (file_row width) lent ++ end)) starts
    ∙ ap (λ some. (rule width ++ (header width ++ (rule width ++ row width (codes "All files") (summary_of files).total []))) ++ (flat_map (file_row width) some ++ end)) same
    ∙ ap (λ text. (rule width ++ (header width ++ (rule width ++ row width (codes "All files") (summary_of files).total []))) ++ (flat_map (file_row width) files ++ text)) ends
    ∙ regrouped (rule width) (header width) (row width (codes "All files") (summary_of files).total []) (flat_map (file_row width) files ++ rule width)
    ∙ ap (λ w. rule w ++ (header w ++ (rule w ++ (row w (codes "All files") (summary_of files).total [] ++ (flat_map (file_row w) files ++ rule w))))) wide
  where
    regrouped : (a b d e : List ℕ) → (a ++ (b ++ (a ++ d))) ++ e ≡ a ++ (b ++ (a ++ (d ++ e)))
    regrouped a b d e = simp append_assoc

pub json_is : (first : FileCoverage) (others : List FileCoverage) (start : List ℕ) → start ≡ 123 ∷ file_member false first → AreInOrder (first ∷ others) →
    start ++ (flat_map (file_member true) others ++ 125 ∷ 10 ∷ []) ≡ json_text (first ∷ others) ++ 10 ∷ []
json_is first others start starts ordered =
    ap (λ text. text ++ (flat_map (file_member true) others ++ 125 ∷ 10 ∷ [])) starts
    ∙ regrouped (123 ∷ file_member false first) (flat_map (file_member true) others)
    ∙ ap (λ text. text ++ 10 ∷ []) (by_members first others ordered)
  where
    regrouped : (a b : List ℕ) → a ++ (b ++ 125 ∷ 10 ∷ []) ≡ (a ++ (b ++ 125 ∷ [])) ++ 10 ∷ []
    regrouped a b = simp append_assoc

pub first_and_others : (files : List (Bor FileCoverage)) (first : Bor FileCoverage) → 1 ≤ length files → first ≡ get_or files 0 first →
    first.now ∷ map (λ file. file.now) (take (length files - 1) (drop 1 files)) ≡ map (λ file. file.now) files
first_and_others [] first some is = absurd (omega (arith, some))
first_and_others (file ∷ files) first some is =
    ap (λ (one : Bor FileCoverage). one.now ∷ map (λ file. file.now) (take (length (file ∷ files) - 1) files)) is
    ∙ ap (λ rest. file.now ∷ map (λ file. file.now) rest) (take_all (length (file ∷ files) - 1) files (omega arith))
