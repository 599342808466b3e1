-- The texts and the events of a workload.
use Rattle.std.proofs.Common.{◌≡◌, ℕ, ◌*◌, ◌%◌, ◌<◌, ◌≤◌, zero, suc, List, ◌++◌, length, ap, sym, ◌∙◌, arith, append_assoc, length-append}
use Rattle.std.specs.Prelude.{codes}
use Rattle.std.specs.Fmt.{decimal}
use Rattle.std.proofs.lemmas.Fmt.{length-decimal-le}
use Rattle.outside.specs.Workload.{comma, listed, drawn, draw, value_text, behind_value, behind_values, request_text}

-- four pieces behind a text
pub four : (old first second third new a b c d : List ℕ) → first ≡ old ++ a → second ≡ first ++ b → third ≡ second ++ c → new ≡ third ++ d → new ≡ old ++ (a ++ b ++ c ++ d)
four old first second third new a b c d p q r s =
    let two : second ≡ old ++ (a ++ b) = q ∙ ap (λ l. l ++ b) p ∙ append_assoc old a b in
    let three : third ≡ old ++ (a ++ b ++ c) = r ∙ ap (λ l. l ++ c) two ∙ append_assoc old (a ++ b) c in
    s ∙ ap (λ l. l ++ d) three ∙ append_assoc old (a ++ b ++ c) d

-- the text of a value, piece by piece
pub value_put : (old first second third new : List ℕ) (s h k v x y z : ℕ) → h ≡ drawn s → k ≡ drawn h → v ≡ drawn k → x ≡ draw h → y ≡ draw k → z ≡ draw v
    → first ≡ old ++ (codes "{\"host\":\"h" ++ decimal (x % 50)) → second ≡ first ++ (codes "\",\"key\":\"k" ++ decimal (y % 10))
    → third ≡ second ++ (codes "\",\"value\":\"" ++ decimal (z % 100)) → new ≡ third ++ codes "\"}" → new ≡ old ++ value_text s
unfolding value_text
value_put old first second third new s h k v x y z is_h is_k is_v is_x is_y is_z p q r t =
    let key : k ≡ drawn (drawn s) = is_k ∙ ap drawn is_h in
    let value : v ≡ drawn (drawn (drawn s)) = is_v ∙ ap drawn key in
    four old first second third new
    (codes "{\"host\":\"h" ++ decimal (draw (drawn s) % 50)) (codes "\",\"key\":\"k" ++ decimal (draw (drawn (drawn s)) % 10))
    (codes "\",\"value\":\"" ++ decimal (draw (behind_value s) % 100)) (codes "\"}")
    (p ∙ ap (λ n. old ++ (codes "{\"host\":\"h" ++ decimal (n % 50))) (is_x ∙ ap draw is_h))
    (q ∙ ap (λ n. first ++ (codes "\",\"key\":\"k" ++ decimal (n % 10))) (is_y ∙ ap draw key))
    (r ∙ ap (λ n. second ++ (codes "\",\"value\":\"" ++ decimal (n % 100))) (is_z ∙ ap draw value))
    t

-- one more value, and a comma where others follow
pub listed_step : (text after new whole : List ℕ) (s next less more at : ℕ) → more ≡ suc less → at ≡ less → text ++ listed value_text behind_value s more ≡ whole
    → after ≡ text ++ value_text s → next ≡ behind_value s → new ≡ after ++ comma at → new ++ listed value_text behind_value next less ≡ whole
listed_step text after new whole s next less more at one_more same is p q r =
    let rest = listed value_text behind_value next less in
    ap (λ l. l ++ rest) (r ∙ ap (λ l. l ++ comma at) p ∙ append_assoc text (value_text s) (comma at)) ∙ append_assoc text (value_text s ++ comma at) rest
    ∙ ap (λ (n : ℕ). text ++ (value_text s ++ comma n ++ rest)) same
    ∙ ap (λ (n : ℕ). text ++ (value_text s ++ comma less ++ listed value_text behind_value n less)) q
    ∙ ap (λ (n : ℕ). text ++ listed value_text behind_value s n) (sym one_more)
    ∙ is

-- the state behind one more value
pub behind_step : (s next less more whole : ℕ) → more ≡ suc less → next ≡ behind_value s → behind_values s more ≡ whole → behind_values next less ≡ whole
behind_step s next less more whole one_more q is =
    ap (λ (n : ℕ). behind_values n less) q ∙ ap (behind_values s) (sym one_more) ∙ is

-- ---- a request is short

comma_short : (more : ℕ) → length (comma more) ≤ 1
comma_short zero = omega arith
comma_short (suc more) = omega arith

two_digits : (n : ℕ) → n < 100 → length (decimal n) ≤ 2
two_digits n small = length-decimal-le 2 n (omega arith) small (omega arith)

value_short : (s : ℕ) → length (value_text s) ≤ 42
unfolding value_text
value_short s =
    let host = draw (drawn s) % 50 in
    let key = draw (drawn (drawn s)) % 10 in
    let value = draw (behind_value s) % 100 in
    let a = codes "{\"host\":\"h" in
    let b = codes "\",\"key\":\"k" in
    let c = codes "\",\"value\":\"" in
    let d = codes "\"}" in
    omega (
      arith,
      two_digits host (omega arith),
      two_digits key (omega arith),
      two_digits value (omega arith),
      length-append ((a ++ decimal host) ++ (b ++ decimal key) ++ (c ++ decimal value)) d,
      length-append ((a ++ decimal host) ++ (b ++ decimal key)) (c ++ decimal value),
      length-append (a ++ decimal host) (b ++ decimal key),
      length-append a (decimal host),
      length-append b (decimal key),
      length-append c (decimal value),
    )

listed_short : (s count : ℕ) → length (listed value_text behind_value s count) ≤ 43 * count
listed_short s zero = omega arith
listed_short s (suc count) =
    let rest = listed value_text behind_value (behind_value s) count in
    omega (arith, value_short s, comma_short count, listed_short (behind_value s) count, length-append (value_text s ++ comma count) rest, length-append (value_text s) (comma count))

pub request_short : (s count : ℕ) → count ≤ 250 → length (request_text s count) < 4294967296
request_short s count few =
    let front = codes "{\"request\":\"sender data\",\"data\":[" in
    let values = listed value_text behind_value s count in
    omega (arith, few, listed_short s count, length-append (front ++ values) (codes "]}"), length-append front values)
