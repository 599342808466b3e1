-- Bytes that are read in pieces.
use Rattle.std.proofs.Common.{◌≡◌, ℕ, ◌+◌, ◌<◌, ◌≤◌, List, ◌++◌, length, take, drop, sym, ap, ◌∙◌, arith}
use Rattle.std.proofs.lemmas.List.{take_at, drop_at, take-append-le, drop-drop, length-take-le, length-drop, take_all}
use Rattle.std.proofs.Math.Seq.{take-add}

-- one piece more
pub read_more : (file into part rest : List ℕ) (at count more : ℕ) → count < length into → more ≤ length part → take more part ≡ take more (drop (at + count) file) → take count into ≡ take count (drop at file)
    → take (count + more) (take count into ++ (part ++ rest)) ≡ take (count + more) (drop at file)
read_more file into part rest at count more room bound content before =
    let len : length (take count into) ≡ count = length-take-le count into (omega arith) in
    let whole = take count into ++ (part ++ rest) in
    let front : take count whole ≡ take count into = take_at (take count into) (part ++ rest) count len in
    let back : take more (drop count whole) ≡ take more (drop count (drop at file)) =
    ap (λ (x : List ℕ). take more x) (drop_at (take count into) (part ++ rest) count len) ∙ take-append-le more part rest bound ∙ content ∙ ap (λ (x : List ℕ). take more x) (sym (drop-drop count at file)) in
    take-add count more whole ∙ ap (λ (x : List ℕ). x ++ take more (drop count whole)) (front ∙ before) ∙ ap (λ (x : List ℕ). take count (drop at file) ++ x) back ∙ sym (take-add count more (drop at file))

-- the end was met
pub read_end : (file into : List ℕ) (at count : ℕ) → count ≤ length into → length file ≤ at + count → take count into ≡ take count (drop at file) → take count into ≡ take (length into) (drop at file)
read_end file into at count room end content =
    let short : length (drop at file) ≤ count = omega (arith, length-drop at file) in
    content ∙ take_all count (drop at file) short ∙ sym (take_all (length into) (drop at file) (omega arith))

-- all was read where there is enough
pub read_full : (file into : List ℕ) (at count size : ℕ) → length into ≡ size → count ≤ length into → at + size ≤ length file → take count into ≡ take size (drop at file) → count ≡ size
read_full file into at count size len bound enough content = omega (arith, ap length content, length-take-le count into bound, length-take-le size (drop at file) (omega (arith, enough, length-drop at file)), len)

pub read_all : (file into : List ℕ) (at count size : ℕ) → length into ≡ size → size ≤ count → take count into ≡ take size (drop at file) → into ≡ take size (drop at file)
read_all file into at count size len enough content = sym (take_all count into (omega (arith, len, enough))) ∙ content
