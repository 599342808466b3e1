-- Laws of frames and of what is found.
use Rattle.std.proofs.Common.{◌≡◌, ◌≢◌, ℕ, zero, suc, ◌+◌, ◌-◌, ◌<◌, ◌≤◌, ◌^◌, true, List, [], ◌∷◌, ◌++◌, length, take, drop, get_or, replicate, refl, ap, sym, subst, arith, ◌∙◌, ◌⊎◌, inl, inr, length-append, append_assoc, append-nil}
use Rattle.std.proofs.lemmas.Bool.{cases_lt}
use Rattle.std.proofs.lemmas.List.{take_at, drop_at, take-append-drop, take-append-le, drop-append-le, drop_more, drop-drop, drop-take, length-drop, length-take, length-take-le, length-replicate, get_or-take, get_or-drop, get_or_past, get_or_append_left, get_or-append_right}
use Rattle.std.proofs.lemmas.Nat.{le_bytes_4, from_le_bytes-to_le_bytes_4}
use Rattle.std.specs.Int.{w32, from_le_bytes, to_le_bytes}
use Rattle.std.specs.Prelude.{Result, Ok, Err, OnOk, OnErr, if◌then◌else◌}
use Rattle.zbx_types.specs.Frames.{longest_data, lead, frame, IsFrame}
use Rattle.zbxd_frame.specs.declared.fault.Fault.{Fault}
use Rattle.zbxd_frame.specs.Found.{Found, short, whole, bad, found, agrees, magic}
use Rattle.zbxd_frame.specs.Answers.{fed_with, is_short}
use Rattle.zbxd_frame.specs.Laws.{BeginsWithFrame, EndsWith, IsPartOfFrame, IsNoFrame, IsFoundRight, found_onward}
use Rattle.zbxd_frame.proofs.FoundLemmas.{IsHeaded, no_magic, in_magic, no_flags, in_length, no_length, in_body, at_end, stage, length_at, agrees-long, agrees-more, agrees-short, agrees-unequal, found-whole, found-no_magic, found-magic, found_magic-flags, found_magic-long, found_long-over}

-- each of them is a byte
abbrev pub AreBytes : List ℕ → Type 0
AreBytes xs = (i : ℕ) → get_or xs i 0 < 256

-- what stands behind the lead, at any reserved bytes
abbrev headed_by : ℕ → List ℕ → List ℕ
headed_by n tail = lead ++ to_le_bytes w32 n ++ tail

-- a header with this number in its length field is right
headed : (n : ℕ) (tail : List ℕ) → IsHeaded (headed_by n tail)
headed n tail = record { magic_is = refl; flags_are = refl; long = omega arith }

length_there : (n : ℕ) (tail : List ℕ) → n < 2 ^ 32 → length_at (headed_by n tail) ≡ n
length_there n tail h = from_le_bytes-to_le_bytes_4 n h

-- behind the header stands the data, whatever the reserved bytes are
data_there : (n : ℕ) (reserved tail : List ℕ) → length reserved ≡ 4 → drop 13 (headed_by n (reserved ++ tail)) ≡ tail
data_there n reserved tail h = drop_at reserved tail 4 h

found_headed : (body reserved more : List ℕ) → length body ≤ longest_data → length reserved ≡ 4 → found (headed_by (length body) (reserved ++ (body ++ more))) ≡ whole body more
found_headed body reserved more fits four =
    let tail = reserved ++ (body ++ more) in
    let bytes = headed_by (length body) tail in
    let n : length_at bytes ≡ length body = length_there (length body) tail (omega arith) in
    let long : 13 + length body ≤ length bytes = simp length-append (omega arith) in
    let found_so = found-whole bytes (length body) (headed (length body) tail) n fits long in
    rw (data_there (length body) reserved (body ++ more) four, take_at body more (length body) refl, drop_at body more (length body) refl) at found_so

-- a frame is found, whatever stands behind it
pub found-IsFrame : (body front more : List ℕ) → IsFrame body front → found (front ++ more) ≡ whole body more
found-IsFrame body front more f =
    let e : front ++ more ≡ headed_by (length body) (f.reserved ++ (body ++ more)) = ap (λ u. u ++ more) f.bytes_are ∙ simp append_assoc in
    ap found e ∙ found_headed body f.reserved more f.fits f.reserved_length

pub written_is_frame : (body : List ℕ) → length body ≤ longest_data → IsFrame body (frame body)
written_is_frame body fits = record { reserved = 0 ∷ 0 ∷ 0 ∷ 0 ∷ []; reserved_length = refl; fits = fits; bytes_are = refl }

pub found_written : (body more : List ℕ) → length body ≤ longest_data → found (frame body ++ more) ≡ whole body more
found_written body more fits = found-IsFrame body (frame body) more (written_is_frame body fits)

-- the length field holds bytes
field_bytes : (bytes : List ℕ) → AreBytes bytes → AreBytes (take 4 (drop 5 bytes))
field_bytes bytes small i =
    elim (cases_lt i 4) [
      | inl within ↦ rw (get_or-take 4 (drop 5 bytes) i 0 within, get_or-drop 5 bytes i 0) (small (5 + i))
      | inr past ↦
          let none : get_or (take 4 (drop 5 bytes)) i 0 ≡ 0 = get_or_past (take 4 (drop 5 bytes)) i 0 (omega (arith, length-take 4 (drop 5 bytes))) in
          omega (arith, none)
    ]

-- bytes with a right header, by their length field and what stands behind it
headed_is : (bytes : List ℕ) → AreBytes bytes → IsHeaded bytes → bytes ≡ headed_by (length_at bytes) (drop 9 bytes)
headed_is bytes small head =
    let long = head.long in
    let field = take 4 (drop 5 bytes) in
    let start : bytes ≡ magic ++ drop 4 bytes = agrees-long bytes magic head.magic_is (omega arith) in
    let flags : drop 4 bytes ≡ 1 ∷ drop 5 bytes = drop_more bytes 4 0 (omega arith) ∙ ap (λ x. x ∷ drop 5 bytes) head.flags_are in
    let split : field ++ drop 4 (drop 5 bytes) ≡ drop 5 bytes = take-append-drop 4 (drop 5 bytes) in
    let behind : drop 4 (drop 5 bytes) ≡ drop 9 bytes = drop-drop 4 5 bytes in
    let four : length field ≡ 4 = length-take-le 4 (drop 5 bytes) (omega (arith, length-drop 5 bytes)) in
    let number : to_le_bytes w32 (length_at bytes) ≡ field = le_bytes_4 field (length_at bytes) four (field_bytes bytes small) refl in
    let whole_start : bytes ≡ lead ++ drop 5 bytes = start ∙ ap (λ u. magic ++ u) flags in
    let ends : drop 5 bytes ≡ to_le_bytes w32 (length_at bytes) ++ drop 9 bytes = sym split ∙ ap (λ u. field ++ u) behind ∙ ap (λ u. u ++ drop 9 bytes) (sym number) in
    whole_start ∙ ap (λ u. lead ++ u) ends

-- four reserved bytes and a body behind a right header are a frame
headed_frame : (n : ℕ) (tail : List ℕ) → n ≤ longest_data → length tail ≡ 4 + n → IsFrame (drop 4 tail) (headed_by n tail)
headed_frame n tail fits long =
    let size : length (drop 4 tail) ≡ n = omega (arith, length-drop 4 tail) in
    let parts : tail ≡ take 4 tail ++ drop 4 tail = sym (take-append-drop 4 tail) in
    record {
      reserved = take 4 tail;
      reserved_length = length-take-le 4 tail (omega arith);
      fits = omega (arith, size);
      bytes_are = ap (λ u. headed_by n u) parts ∙ ap (λ m. headed_by m (take 4 tail ++ drop 4 tail)) (sym size) ∙ sym (append_assoc (lead ++ to_le_bytes w32 (length (drop 4 tail))) (take 4 tail) (drop 4 tail));
    }

-- what is found to be a whole frame with its rest begins with a frame
pub BeginsWithFrame-found : (bytes body behind : List ℕ) → AreBytes bytes → found bytes ≡ whole body behind → BeginsWithFrame body behind bytes
BeginsWithFrame-found bytes body behind small is =
    elim (stage bytes) [
      | no_magic a e ↦ cc
      | in_magic a b e ↦ cc
      | no_flags a b c e ↦ cc
      | in_length a b c d e ↦ cc
      | no_length a b e ↦ cc
      | in_body a b c e ↦ cc
      | at_end head fits long e ↦ split_at_end bytes body behind small head fits long (sym e ∙ is)
    ]
  where
    split_at_end : (bytes body behind : List ℕ) → AreBytes bytes → IsHeaded bytes → length_at bytes ≤ longest_data → 13 + length_at bytes ≤ length bytes → whole (take (length_at bytes) (drop 13 bytes)) (drop (length_at bytes) (drop 13 bytes)) ≡ whole body behind → BeginsWithFrame body behind bytes
    split_at_end bytes body behind small head fits long e =
        let n = length_at bytes in
        let tail = drop 9 bytes in
        let data_at : drop 13 bytes ≡ drop 4 tail = sym (drop-drop 4 9 bytes) in
        let body_is : drop 4 (take (4 + n) tail) ≡ body = drop-take 4 n tail ∙ ap (λ u. take n u) (sym data_at) ∙ cc in
        let behind_is : drop (4 + n) tail ≡ behind = sym (drop-drop n 4 tail) ∙ ap (λ u. drop n u) (sym data_at) ∙ cc in
        let parts : take (4 + n) tail ++ behind ≡ tail = ap (λ u. take (4 + n) tail ++ u) (sym behind_is) ∙ take-append-drop (4 + n) tail in
        let size : length (take (4 + n) tail) ≡ 4 + n = length-take-le (4 + n) tail (omega (arith, length-drop 9 bytes)) in
        let front = headed_by n (take (4 + n) tail) in
        let frame : IsFrame body front = subst (λ u. IsFrame u front) body_is (headed_frame n (take (4 + n) tail) fits size) in
        (front, headed_is bytes small head ∙ ap (λ u. headed_by n u) (sym parts) ∙ sym (append_assoc (lead ++ to_le_bytes w32 n) (take (4 + n) tail) behind), frame)

-- the header stays right whatever follows
headed-more : (bytes more : List ℕ) → IsHeaded bytes → IsHeaded (bytes ++ more)
headed-more bytes more head =
    let long = head.long in
    record {
      magic_is = agrees-more bytes more magic head.magic_is (omega arith);
      flags_are = get_or_append_left bytes more 0 4 (omega arith) ∙ head.flags_are;
      long = omega (arith, length-append bytes more);
    }

length_at-more : (bytes more : List ℕ) → 9 ≤ length bytes → length_at (bytes ++ more) ≡ length_at bytes
length_at-more bytes more long =
    let behind : drop 5 (bytes ++ more) ≡ drop 5 bytes ++ more = drop-append-le 5 bytes more (omega arith) in
    let field : take 4 (drop 5 bytes ++ more) ≡ take 4 (drop 5 bytes) = take-append-le 4 (drop 5 bytes) more (omega (arith, length-drop 5 bytes)) in
    ap (λ u. from_le_bytes w32 u) (ap (λ u. take 4 u) behind ∙ field)

-- what no frame begins with stays so
pub bad-more : (bytes more : List ℕ) (fault : Fault) → found bytes ≡ bad fault → found (bytes ++ more) ≡ bad fault
bad-more bytes more fault is =
    elim (stage bytes) [
      | no_magic a e ↦ found-no_magic (bytes ++ more) (agrees-unequal bytes more magic a) ∙ sym e ∙ is
      | in_magic a b e ↦ cc
      | no_flags a b c e ↦
          let flags : get_or (bytes ++ more) 4 0 ≡ get_or bytes 4 0 = get_or_append_left bytes more 0 4 b in
          found-magic (bytes ++ more) (agrees-more bytes more magic a (omega arith)) ∙ found_magic-flags (bytes ++ more) (omega (arith, length-append bytes more)) (λ one. c (sym flags ∙ one)) ∙ sym e ∙ is
      | in_length a b c d e ↦ cc
      | no_length head over e ↦
          let there = headed-more bytes more head in
          found-magic (bytes ++ more) there.magic_is ∙ found_magic-long (bytes ++ more) there.flags_are there.long ∙ found_long-over (bytes ++ more) (omega (arith, length_at-more bytes more head.long)) ∙ sym e ∙ is
      | in_body a b c e ↦ cc
      | at_end a b c e ↦ cc
    ]

pub IsNoFrame-found : (bytes : List ℕ) (fault : Fault) → found bytes ≡ bad fault → IsNoFrame bytes
IsNoFrame-found bytes fault is body front more f = (
  (λ same. let stays = bad-more bytes more fault is in let there = found-IsFrame body front [] f in let ends = append-nil front in cc),
  (λ same. let there = found-IsFrame body front more f in cc),
)

-- the beginning of the beginning of a frame is one
IsPartOfFrame-front : (bytes more : List ℕ) → IsPartOfFrame (bytes ++ more) → IsPartOfFrame bytes
IsPartOfFrame-front bytes more p =
    let last = p.more in
    let on : length last ≡ 0 → ⊥ = λ e. p.goes_on (nil_from_length last e) in
    record {
      body = p.body;
      more = more ++ last;
      goes_on = λ e. on (omega (arith, length-append more last, ap length e));
      is_frame = subst (λ u. IsFrame p.body u) (append_assoc bytes more last) p.is_frame;
    }
  where
    nil_from_length : (xs : List ℕ) → length xs ≡ 0 → xs ≡ []
    nil_from_length [] e = refl
    nil_from_length (x ∷ xs) e = absurd (omega arith)

abbrev zeros : ℕ → List ℕ
zeros n = replicate n 0

zeros_are : (n i : ℕ) → get_or (zeros n) i 0 ≡ 0
zeros_are zero i = refl
zeros_are (suc n) zero = refl
zeros_are (suc n) (suc i) = zeros_are n i

zeros_after : (bytes : List ℕ) (n : ℕ) → AreBytes bytes → AreBytes (bytes ++ zeros n)
zeros_after bytes n small i =
    elim (cases_lt i (length bytes)) [
      | inl within ↦ rw (get_or_append_left bytes (zeros n) 0 i within) (small i)
      | inr past ↦ rw (get_or-append_right bytes (zeros n) (length bytes) i 0 refl past, zeros_are n (i - length bytes)) (omega arith)
    ]

-- where the data isn't all there, zeros end it
IsPartOfFrame-in_body : (bytes : List ℕ) → AreBytes bytes → IsHeaded bytes → length_at bytes ≤ longest_data → length bytes < 13 + length_at bytes → IsPartOfFrame bytes
IsPartOfFrame-in_body bytes small head fits below =
    let n = length_at bytes in
    let missing = 13 + n - length bytes in
    let more = zeros missing in
    let tail = drop 9 bytes ++ more in
    let many : length more ≡ missing = length-replicate missing 0 in
    let long = head.long in
    let size : length tail ≡ 4 + n = omega (arith, length-append (drop 9 bytes) more, length-drop 9 bytes, many) in
    let is : bytes ++ more ≡ headed_by n tail = ap (λ u. u ++ more) (headed_is bytes small head) ∙ append_assoc (lead ++ to_le_bytes w32 n) (drop 9 bytes) more in
    record {
      body = drop 4 tail;
      more = more;
      goes_on = λ e. let none : length more ≡ 0 = ap length e in absurd (omega arith);
      is_frame = subst (λ u. IsFrame (drop 4 tail) u) (sym is) (headed_frame n tail fits size);
    }

-- a length field that ends with zero is within the limit
low_length : (field : List ℕ) → AreBytes field → get_or field 3 0 ≡ 0 → from_le_bytes w32 field ≤ longest_data
low_length field small zero_last = omega (arith, small 0, small 1, small 2)

-- where the length field isn't all there, zeros end it
IsPartOfFrame-in_length : (bytes : List ℕ) → AreBytes bytes → agrees bytes magic ≡ true → 4 < length bytes → get_or bytes 4 0 ≡ 1 → length bytes < 9 → IsPartOfFrame bytes
IsPartOfFrame-in_length bytes small a some one below =
    let missing = 9 - length bytes in
    let more = zeros missing in
    let longer = bytes ++ more in
    let many : length more ≡ missing = length-replicate missing 0 in
    let size : length longer ≡ 9 = omega (arith, length-append bytes more, many) in
    let bytes_too : AreBytes longer = zeros_after bytes missing small in
    let head : IsHeaded longer = record {
      magic_is = agrees-more bytes more magic a (omega arith);
      flags_are = get_or_append_left bytes more 0 4 some ∙ one;
      long = omega arith;
    } in
    let last : get_or longer 8 0 ≡ 0 = get_or-append_right bytes more (length bytes) 8 0 refl (omega arith) ∙ zeros_are missing (8 - length bytes) in
    let field_last : get_or (take 4 (drop 5 longer)) 3 0 ≡ 0 = get_or-take 4 (drop 5 longer) 3 0 (omega arith) ∙ get_or-drop 5 longer 3 0 ∙ last in
    let fits : length_at longer ≤ longest_data = low_length (take 4 (drop 5 longer)) (field_bytes longer bytes_too) field_last in
    IsPartOfFrame-front bytes more (IsPartOfFrame-in_body longer bytes_too head fits (omega arith))

-- what is found to be short is the beginning of a frame, and not the whole of it
pub IsPartOfFrame-found : (bytes : List ℕ) → AreBytes bytes → found bytes ≡ short → IsPartOfFrame bytes
IsPartOfFrame-found bytes small is =
    elim (stage bytes) [
      | no_magic a e ↦ cc
      | in_magic a few e ↦
          let empty : IsPartOfFrame magic = record { body = []; more = 1 ∷ 0 ∷ 0 ∷ 0 ∷ 0 ∷ 0 ∷ 0 ∷ 0 ∷ 0 ∷ []; goes_on = λ e. cc; is_frame = written_is_frame [] (omega arith) } in
          IsPartOfFrame-front bytes (drop (length bytes) magic) (subst (λ u. IsPartOfFrame u) (sym (agrees-short bytes magic a few)) empty)
      | no_flags a b c e ↦ cc
      | in_length a some one below e ↦ IsPartOfFrame-in_length bytes small a some one below
      | no_length a b e ↦ cc
      | in_body head fits below e ↦ IsPartOfFrame-in_body bytes small head fits below
      | at_end a b c e ↦ cc
    ]

-- a whole frame stays one, with more behind it
pub whole-more : (bytes more body behind : List ℕ) → BeginsWithFrame body behind bytes → found (bytes ++ more) ≡ whole body (behind ++ more)
whole-more bytes more body behind (front, e, f) = ap found (ap (λ u. u ++ more) e ∙ append_assoc front behind more) ∙ found-IsFrame body front (behind ++ more) f

-- what is found of bytes is true of them, and more bytes don't change it
pub IsFoundRight-bytes : (bytes : List ℕ) → AreBytes bytes → IsFoundRight bytes
IsFoundRight-bytes bytes small = record {
  whole_is = λ body behind. BeginsWithFrame-found bytes body behind small;
  short_is = IsPartOfFrame-found bytes small;
  bad_is = IsNoFrame-found bytes;
  onward = λ more decided. by_found (found bytes) refl more decided;
}
  where
    by_found : (f : Found) → found bytes ≡ f → (more : List ℕ) → found bytes ≢ short → found (bytes ++ more) ≡ found_onward (found bytes) more
    by_found short e more decided = absurd (decided e)
    by_found (whole body behind) e more decided = whole-more bytes more body behind (BeginsWithFrame-found bytes body behind small e) ∙ ap (λ f. found_onward f more) (sym e)
    by_found (bad fault) e more decided = bad-more bytes more fault e ∙ ap (λ f. found_onward f more) (sym e)

-- where short bytes and a piece are a whole frame, what stands behind it is the end of the piece
pub EndsWith-behind : (bytes piece body behind : List ℕ) → IsFoundRight (bytes ++ piece) → found bytes ≡ short → found (bytes ++ piece) ≡ whole body behind → EndsWith behind piece
EndsWith-behind bytes piece body behind right was is =
    let (front, e, f) = right.whole_is body behind is in
    split front e f (cases_lt (length front) (length bytes))
  where
    split : (front : List ℕ) → bytes ++ piece ≡ front ++ behind → IsFrame body front → (length front < length bytes) ⊎ (length bytes ≤ length front) → EndsWith behind piece
    split front e f (inl within) =
        let k = length front in
        let start : take k bytes ≡ front = sym (take-append-le k bytes piece (omega arith)) ∙ ap (λ u. take k u) e ∙ take_at front behind k refl in
        let parts : front ++ drop k bytes ≡ bytes = ap (λ u. u ++ drop k bytes) (sym start) ∙ take-append-drop k bytes in
        let there = found-IsFrame body front (drop k bytes) f in
        cc
    split front e f (inr beyond) =
        let k = length bytes in
        (drop k front, sym (drop_at bytes piece k refl) ∙ ap (λ u. drop k u) e ∙ drop-append-le k front behind beyond)

-- the same of a feed before and after a piece
pub EndsWith-fed : {T E : Type 0} (result : Result T E) (old new piece body behind : List ℕ) → OnOk result (new ≡ fed_with old piece) → OnErr result (new ≡ old) → IsFoundRight new → found old ≡ short → found new ≡ whole body behind → EndsWith behind piece
EndsWith-fed (Ok fed) old new piece body behind taken kept right was is =
    let all : new ≡ old ++ piece = taken ∙ ap (λ f. if is_short f then old ++ piece else old) was in
    EndsWith-behind old piece body behind (subst (λ u. IsFoundRight u) all right) was (ap found (sym all) ∙ is)
EndsWith-fed (Err refused) old new piece body behind taken kept right was is = let same : new ≡ old = kept in cc

-- the body that is found stands behind the header
pub body_there : (bytes body behind : List ℕ) → IsFoundRight bytes → found bytes ≡ whole body behind → take (length body) (drop 13 bytes) ≡ body
body_there bytes body behind right is =
    let begins = right.whole_is body behind is in
    let f = begins.2 in
    let e : bytes ≡ headed_by (length body) (f.reserved ++ (body ++ behind)) = begins.1 ∙ ap (λ u. u ++ behind) f.bytes_are ∙ simp append_assoc in
    rw (e, data_there (length body) f.reserved (body ++ behind) f.reserved_length) (take_at body behind (length body) refl)
