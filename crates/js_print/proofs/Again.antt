-- What is printed is read again.
use Rattle.std.proofs.Common.{◌≡◌, ◌∙◌, ℕ, ◌*◌, ◌≤◌, List, length, sym, subst, arith}
use Rattle.js_tree.specs.Plain.{File}
use Rattle.js_tree.specs.Height.{height_file}
use Rattle.js_spelling.proofs.Ones.{has_tokens}
use Rattle.js_layout.specs.Layout.{layout}
use Rattle.js_layout.specs.Printable.{Printable}
use Rattle.js_layout.proofs.Again.{layout_is_text, reads_again}
use Rattle.js_layout.specs.Neat.{neat_file}
use Rattle.js_layout.proofs.Bare.{bare_neat_file}
use Rattle.js_layout.proofs.BareUnplaced.{same_alike_file}
use Rattle.js_layout.proofs.Low.{reads_low}
use Rattle.js_layout.proofs.Alike.{layout_again}
use Rattle.js_layout.proofs.Accepted.{accepted_prints}
use Rattle.js_layout.proofs.Short.{prints_short}
use Rattle.js_print.specs.Again.{ReadAgain, OfSources}

layout_read : (file : File) → Printable file → ReadAgain (layout file) file
layout_read file h =
    let read = reads_again file h in
    let same = same_alike_file read.tree (neat_file file) read.alike ∙ bare_neat_file file in
    record { utf8 = layout_is_text file h; tree = read.tree; reads = read.reads; alike = read.alike; same = same; low = reads_low file read; twice = layout_again file (record { tree = read.tree; reads = read.reads; same = same }) }

pub read_again : (text : List ℕ) (file : File) → text ≡ layout file → Printable file → ReadAgain text file
read_again text file is h = subst (λ t. ReadAgain t file) (sym is) (layout_read file h)

bounded : (n m : ℕ) → n ≤ 8 * m → m ≤ 1_048_576 → n ≤ 1_099_511_627_776
bounded n m short low = grind (arith)

low : (n m : ℕ) → n ≤ 2 * m → m ≤ 128 → n ≤ 2_048
low n m short h = grind (arith)

layout_of_sources : (file : File) → OfSources (layout file) file
layout_of_sources file again bytes utf8 reads sound =
    let read = layout_read file (accepted_prints has_tokens again bytes file utf8 reads sound) in
    let short = prints_short bytes file utf8 reads in
    record { read = read; short = short; bounded = bounded (length (layout file)) (length bytes) short; low = low (height_file read.tree) (height_file file) read.low }

pub of_sources : (text : List ℕ) (file : File) → text ≡ layout file → OfSources text file
of_sources text file is = subst (λ t. OfSources t file) (sym is) (layout_of_sources file)
