-- The machine takes the paths of the grammar, each as the path that it is.
use Rattle.std.proofs.Common.{◌≡◌, ℕ, List, [], ◌∷◌, ◌++◌, refl, ap, sym, ◌∙◌, Option, Some, None, Bool, true, false, ◌==◌, if◌then◌else◌, arith}
use Rattle.std.proofs.lemmas.Bool.Decides.{nat_tests}
use Rattle.byte_grammar.specs.declared.characters.Character.TheVariants.{Whole}
use Rattle.json_path.specs.declared.path.Path.{Path}
use Rattle.json_path.specs.declared.path.Segment.{Segment}
use Rattle.json_path.specs.declared.path.Selector.TheVariants.{Names, All}
use Rattle.json_path.specs.declared.path.Function.{Function}
use Rattle.json_path.specs.declared.path.Function.TheVariants.{Length, First, Min, Max, Sum, Avg}
use Rattle.json_path.specs.declared.brackets.InBrackets.{InBrackets}
use Rattle.json_path.specs.declared.brackets.InBrackets.TheVariants as within
use Rattle.json_path.specs.declared.brackets.Chosen.{Chosen}
use Rattle.json_path.specs.declared.brackets.Chosen.TheVariants as chosen
use Rattle.json_path.specs.declared.places.Place.{Place}
use Rattle.json_path.specs.declared.places.Place.TheVariants.{Start, Behind, Point, Points, Name, Inside, Call, Called}
use Rattle.json_path.specs.declared.places.State.{State}
use Rattle.json_path.specs.Grammar.{is_name_byte, dots, opening, IsSegment, member, members, selected, AreSegments, document, segment as with_segment, function_name, IsPath, selection, with_function}
use Rattle.json_path.specs.Tokens.{checked}
use Rattle.json_path.specs.Machine.{choose, state, segment, behind_segment, member_ends, selector_goes, step, path_of, named_path, ends, start}
use Rattle.byte_grammar.specs.Runs.{run}
use Rattle.byte_grammar.proofs.Runs.{joined, grown, lifted_all, byte_on, byte_end}
use Rattle.json_path.proofs.TokenRuns.{spelling}
use Rattle.json_path.proofs.TextRuns.{Names as NamesAt, name_run}
use Rattle.json_path.proofs.SelectorRuns.{open_choice, choose_step, closes, selector_run}

-- the path of a text that leads there
abbrev pub ends_at : Option State → Option Path
ends_at None = None
ends_at (Some s) = ends s

-- the segments of a state behind a whole one
abbrev pub more_segments : List Segment → Bool → Option (List ℕ) → Option (List Segment)
more_segments done deep None = None
more_segments done deep (Some w) = Some (done ++ segment deep (Names (w ∷ [])) ∷ [])

abbrev pub segments_of : List Segment → Place → Option (List Segment)
segments_of done Behind = Some done
segments_of done (Name deep s) = more_segments done deep (checked s.bytes)
segments_of done _ = None

behind_them : (done : List Segment) (p : Place) (ss : List Segment) (b : ℕ) → segments_of done p ≡ Some ss → is_name_byte b ≡ false → (b == 40) ≡ false → step (state done p) b ≡ behind_segment ss b
behind_them done Behind ss b e h g = let c : done ≡ ss = cc in rw c refl
behind_them done (Name deep s) ss b e h g = rw (h, g) (from (checked s.bytes) e)
  where
    from : (o : Option (List ℕ)) → more_segments done deep o ≡ Some ss → member_ends done deep b o ≡ behind_segment ss b
    from None e = absurd cc
    from (Some w) e = let c : done ++ segment deep (Names (w ∷ [])) ∷ [] ≡ ss = cc in rw c refl
behind_them done Start ss b e h g = absurd cc
behind_them done Point ss b e h g = absurd cc
behind_them done Points ss b e h g = absurd cc
behind_them done (Inside deep w) ss b e h g = absurd cc
behind_them done (Call f) ss b e h g = absurd cc
behind_them done (Called f) ss b e h g = absurd cc

ends_with : (done : List Segment) (p : Place) (ss : List Segment) → segments_of done p ≡ Some ss → ends (state done p) ≡ path_of ss None
ends_with done Behind ss e = let c : done ≡ ss = cc in rw c refl
ends_with done (Name deep s) ss e = from (checked s.bytes) e
  where
    from : (o : Option (List ℕ)) → more_segments done deep o ≡ Some ss → named_path done deep o ≡ path_of ss None
    from None e = absurd cc
    from (Some w) e = let c : done ++ segment deep (Names (w ∷ [])) ∷ [] ≡ ss = cc in rw c refl
ends_with done Start ss e = absurd cc
ends_with done Point ss e = absurd cc
ends_with done Points ss e = absurd cc
ends_with done (Inside deep w) ss e = absurd cc
ends_with done (Call f) ss e = absurd cc
ends_with done (Called f) ss e = absurd cc

-- what the run of segments comes to
record Reaches (s : State) (text : List ℕ) (segments : List Segment) : Type 0 where
  done : List Segment
  place : Place
  is : run step (Some s) text ≡ Some (state done place)
  has : segments_of done place ≡ Some segments

abbrev pub pointed : Bool → Place
pointed deep = if deep then Points else Point

dots_run : (done : List Segment) (p : Place) (ss : List Segment) → segments_of done p ≡ Some ss → (deep : Bool) → run step (Some (state done p)) (dots deep) ≡ Some (state ss (pointed deep))
dots_run done p ss e false = byte_end step (state done p) (state ss Point) 46 (behind_them done p ss 46 e refl refl)
dots_run done p ss e true = byte_on step (state done p) (state ss Point) 46 (46 ∷ []) (behind_them done p ss 46 e refl refl) ∙ byte_end step (state ss Point) (state ss Points) 46 refl

opening_run : (done : List Segment) (p : Place) (ss : List Segment) → segments_of done p ≡ Some ss → (deep : Bool) → run step (Some (state done p)) (opening deep) ≡ Some (state ss (Inside deep within.Before))
opening_run done p ss e false = byte_end step (state done p) (state ss (Inside false within.Before)) 91 (behind_them done p ss 91 e refl refl)
opening_run done p ss e true =
    byte_on step (state done p) (state ss Point) 46 (46 ∷ 91 ∷ []) (behind_them done p ss 46 e refl refl)
    ∙ byte_on step (state ss Point) (state ss Points) 46 (91 ∷ []) refl ∙ byte_end step (state ss Points) (state ss (Inside true within.Before)) 91 refl

other_bytes : (b : ℕ) → is_name_byte b ≡ true → ((b == 46) ≡ false) × ((b == 91) ≡ false) × ((b == 42) ≡ false)
other_bytes b h = (grind (arith, nat_tests), grind (arith, nat_tests), grind (arith, nat_tests))

pub member_names : (ss : List Segment) (deep : Bool) → NamesAt step (state ss (pointed deep)) (λ s. state ss (Name deep s))
member_names ss false = record {
  begins = λ b r h e. let o = other_bytes b h in rw (o.0, o.2, h, e) refl;
  goes = λ p r b h e. rw (h, e) refl;
}
member_names ss true = record {
  begins = λ b r h e. let o = other_bytes b h in rw (o.1, o.2, h, e) refl;
  goes = λ p r b h e. rw (h, e) refl;
}

star_run : (ss : List Segment) (deep : Bool) → step (state ss (pointed deep)) 42 ≡ Some (state (ss ++ segment deep All ∷ []) Behind)
star_run ss false = refl
star_run ss true = refl

pub inside_on : (ss : List Segment) (deep : Bool) (m r : InBrackets) (b : ℕ) → choose_step m b ≡ Some r → step (state ss (Inside deep m)) b ≡ Some (state ss (Inside deep r))
inside_on ss deep m r b e = from (choose m b) e
  where
    from : (c : Chosen) → open_choice c ≡ Some r → selector_goes ss deep c ≡ Some (state ss (Inside deep r))
    from (chosen.Open w) e = let g : w ≡ r = cc in rw g refl
    from (chosen.Closed s) e = absurd cc
    from chosen.Wrong e = absurd cc

segment_run : (done : List Segment) (p : Place) (ss : List Segment) → segments_of done p ≡ Some ss → {t : List ℕ} {s : Segment} → IsSegment t s → Reaches (state done p) t (ss ++ s ∷ [])
segment_run done p ss h (member deep t n m e) =
    let k = name_run step (state ss (pointed deep)) (λ s. state ss (Name deep s)) (member_names ss deep) m in
    record {
      done = ss;
      place = Name deep (spelling t Whole);
      is = rw e (joined step (Some (state done p)) (Some (state ss (pointed deep))) (dots deep) t (dots_run done p ss h deep) ∙ k.0);
      has = rw k.1 refl;
    }
segment_run done p ss h (members deep e) = record {
  done = ss ++ segment deep All ∷ [];
  place = Behind;
  is = rw e (grown step (Some (state done p)) (state ss (pointed deep)) (dots deep) 42 (dots_run done p ss h deep) ∙ star_run ss deep);
  has = refl;
}
segment_run done p ss h (selected deep t s i e) =
    let r = selector_run i in
    let o : State = state ss (Inside deep within.Before) in
    record {
      done = ss ++ segment deep s ∷ [];
      place = Behind;
      is = rw e (joined step (Some (state done p)) (Some o) (opening deep) (t ++ 93 ∷ []) (opening_run done p ss h deep)
          ∙ joined step (Some o) (Some (state ss (Inside deep r.0))) t (93 ∷ []) (lifted_all choose_step step (λ w. state ss (Inside deep w)) (inside_on ss deep) within.Before r.0 t r.1)
          ∙ byte_end step (state ss (Inside deep r.0)) (state (ss ++ segment deep s ∷ []) Behind) 93 (ap (λ c. selector_goes ss deep c) (closes r.0 s r.2)));
      has = refl;
    }

segments_run : {t : List ℕ} {ss : List Segment} → AreSegments t ss → Reaches start t ss
segments_run document = record { done = []; place = Behind; is = byte_end step start (state [] Behind) 36 refl; has = refl }
segments_run (with_segment u t ss s h i e g) =
    let r = segments_run h in
    let k = segment_run r.done r.place ss r.has i in
    record {
      done = k.done;
      place = k.place;
      is = rw e (joined step (Some start) (Some (state r.done r.place)) u t r.is ∙ k.is);
      has = k.has ∙ ap (λ z. Some z) (sym g);
    }

function_run : (ss : List Segment) (f : Function) → run step (Some (state ss Point)) (function_name f ++ 40 ∷ 41 ∷ []) ≡ Some (state ss (Called f))
unfolding run
function_run ss Length = refl
function_run ss First = refl
function_run ss Min = refl
function_run ss Max = refl
function_run ss Sum = refl
function_run ss Avg = refl

-- a path is taken, as itself
pub taken : {text : List ℕ} {path : Path} → IsPath text path → ends_at (run step (Some start) text) ≡ Some path
taken (selection {text} ss h) = let r = segments_run h in ap (λ s. ends_at s) r.is ∙ ends_with r.done r.place ss r.has
taken (with_function u ss f h e) =
    let r = segments_run h in
    rw e (ap (λ s. ends_at s) (joined step (Some start) (Some (state r.done r.place)) u (46 ∷ (function_name f ++ 40 ∷ 41 ∷ [])) r.is
    ∙ byte_on step (state r.done r.place) (state ss Point) 46 (function_name f ++ 40 ∷ 41 ∷ []) (behind_them r.done r.place ss 46 r.has refl refl) ∙ function_run ss f))

some_same : {A : Type 0} (a b : A) → Some a ≡ Some b → a ≡ b
some_same a b e = cc

-- no text is two paths
pub one_path : (text : List ℕ) (p q : Path) → IsPath text p → IsPath text q → p ≡ q
one_path text p q h k = some_same p q (sym (taken h) ∙ taken k)
