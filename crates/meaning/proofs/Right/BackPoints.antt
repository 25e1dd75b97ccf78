-- The lines of a line attribute that were read are right. Assumes nothing.
use Prim.Native.Nat.{ℕ, zero, suc, ◌+◌, ◌≤◌}
use native.Mathlib.Omega.{arith}
use mathlib.Core.Path.{◌≡◌, refl, sym, ap, subst, ◌∙◌}
use mathlib.Core.Bool.{Bool, true, false, ◌||◌}
use mathlib.Core.List.{List, [], ◌∷◌, ◌++◌, append_assoc}
use lib.IntN.{ℤ, pos}
use lib.ListN.{length, drop}
use borrow.Author.Tests.{not-false, eqb-false}
use Rattle.meaning.specs.Bytes.{choose, refuse}
use Rattle.meaning.specs.Model.{Component, Model}
use Rattle.meaning.specs.Field.{Field, fields_of, has_code, STPT, LIPT, ARCP, ELIN}
use Rattle.meaning.specs.Value.{Value, pair, wrong, number_of, is_undefined, is_undefined_twice}
use Rattle.meaning.specs.Row.{Cells, cells, refused, put_number, component_values, point_cells}
use Rattle.meaning.specs.Reading.{LineState, unstarted, started, in_arc, reached, LineCode, stpt, lipt, arcp, elin, other, line_code_of, point, move, is_in_arc, is_forbidden, LineAttribute, Underway, Due, line_of, nothing, due_lines, Content, with_point, point_count, with_line, Rooms}
use Rattle.meaning.specs.Lines.{go, bare, store_point, attribute_line, line_due}
use Rattle.meaning.specs.Right.{Point, Line, Alone, PointLine, Values, none, one, HasStraights, HasArcs, Segment, straight, arc, Segments, last, more, Drawn, drawn}
use Rattle.meaning.proofs.Tests.Unequal.{no_go, no_cells}
use Rattle.meaning.proofs.Tests.Refuse.{passed, neither}
use Rattle.meaning.proofs.Reading.FieldsRead.{number_within}
use Rattle.meaning.proofs.Reading.PointsRead.{told_of}
use Rattle.meaning.proofs.Right.Steps.{step_at, steps, first_of}
use Rattle.meaning.proofs.Right.Points.{with_points, one_point, points_on, under}
use Rattle.meaning.proofs.Right.BackLines.{CodedBy, coded_by, alone_of}

-- ## Values

pub values_of : (u place : ℕ) (cs : List Component) (fs : List Field) (vs : List ℤ) → component_values u place cs fs ≡ cells vs → Values u cs fs vs
unfolding component_values refuse put_number
values_of u place [] [] vs e = let z : vs ≡ [] = cc in rw z none
values_of u place [] (f ∷ fs) vs e = absurd (no_cells 11 place vs e)
values_of u place (c ∷ cs) [] vs e = absurd (no_cells 11 place vs e)
values_of u place (c ∷ cs) (f ∷ fs) vs e = by (is_undefined u f || is_undefined_twice u f) refl (number_of c f.bytes) refl _ refl (values_of u (place + 1) cs fs) e
  where
    by : (t : Bool) → (is_undefined u f || is_undefined_twice u f) ≡ t → (v : Value) → number_of c f.bytes ≡ v → (others : Cells) → component_values u (place + 1) cs fs ≡ others
        → ((ys : List ℤ) → component_values u (place + 1) cs fs ≡ cells ys → Values u cs fs ys)
        → refuse t (refused 12 place) (put_number place v others) ≡ cells vs → Values u (c ∷ cs) (f ∷ fs) vs
    by true d v p others q ih e = absurd (no_cells 12 place vs e)
    by false d (wrong n) p others q ih e = absurd (no_cells n place vs e)
    by false d (pair a b) p (refused n k) q ih e = absurd (no_cells n k vs e)
    by false d (pair a b) p (cells ys) q ih e =
        let z : vs ≡ b ∷ ys = cc in
        let w = neither (is_undefined u f) _ d in
        let first : a ≡ pos 1 = (number_within c f.bytes a b p).0 in
        rw z (one (record { one = w.0; two = w.1 }) (p ∙ ap (λ (y : ℤ). pair y b) first) (ih ys q))

-- ## Codes

pub data CodeOf (fs : List Field) : LineCode → Type 0 where
  is_stpt : has_code STPT fs ≡ true → CodeOf fs stpt
  is_lipt : has_code LIPT fs ≡ true → CodeOf fs lipt
  is_arcp : has_code ARCP fs ≡ true → CodeOf fs arcp
  is_elin : has_code ELIN fs ≡ true → CodeOf fs elin
  is_other : CodeOf fs other

pub code_of : (fs : List Field) → CodeOf fs (line_code_of fs)
unfolding line_code_of choose
code_of fs = by (has_code STPT fs) refl (has_code LIPT fs) refl (has_code ARCP fs) refl (has_code ELIN fs) refl
  where
    by : (a : Bool) → has_code STPT fs ≡ a → (b : Bool) → has_code LIPT fs ≡ b → (c : Bool) → has_code ARCP fs ≡ c → (d : Bool) → has_code ELIN fs ≡ d
        → CodeOf fs (choose a stpt (choose b lipt (choose c arcp (choose d elin other))))
    by true ea b eb c ec d ed = is_stpt ea
    by false ea true eb c ec d ed = is_lipt eb
    by false ea false eb true ec d ed = is_arcp ec
    by false ea false eb false ec true ed = is_elin ed
    by false ea false eb false ec false ed = is_other

-- a line state in which a segment may begin
data Open : LineState → Type 0 where
  behind_start : Open started
  behind_point : Open reached

module _ (m : Model) (rooms : Rooms) (own : List ℕ) (t k : ℕ) (a : LineAttribute) (rest : List LineAttribute) where
  abbrev way : LineState → Underway
  way state = under m rooms own t k a rest state

  -- what a line did
  data LineStep (l : Line) (c : Content) : LineState → Due → Content → Type 0 where
    skip : Alone ELIN l → a.optional ≡ true → LineStep l c unstarted (due_lines t k rest) c
    begin : (vs : List ℤ) → PointLine m.undefined a.components STPT l vs → LineStep l c unstarted (line_of (way started)) (with_point (point_cells 0 vs) c)
    on : {state : LineState} → Open state → (vs : List ℤ) → HasStraights a.forms → PointLine m.undefined a.components LIPT l vs → LineStep l c state (line_of (way reached)) (with_point (point_cells 1 vs) c)
    bow : {state : LineState} → Open state → (vs : List ℤ) → HasArcs a.forms → PointLine m.undefined a.components ARCP l vs → LineStep l c state (line_of (way in_arc)) (with_point (point_cells 2 vs) c)
    through : (vs : List ℤ) → PointLine m.undefined a.components LIPT l vs → LineStep l c in_arc (line_of (way reached)) (with_point (point_cells 1 vs) c)
    finish : Alone ELIN l → LineStep l c reached (due_lines t (point_count c) rest) (with_line (way reached) c)

  module _ (l : Line) (c : Content) (due : Due) (x : Content) where
    abbrev fs : List Field
    fs = fields_of l.start l.bytes

    record Pointed (code : List ℕ) (state next : LineState) (kind : ℕ) : Type 0 where
      vs : List ℤ
      line : PointLine m.undefined a.components code l vs
      form : is_forbidden a.forms state (line_code_of fs) ≡ false
      same : go (line_of (way next)) (with_point (point_cells kind vs) c) ≡ go due x

    pointed : (code : List ℕ) (state next : LineState) (kind : ℕ) → has_code code fs ≡ true → attribute_line m rooms own (way state) fs c (point kind next) ≡ go due x → Pointed code state next kind
    unfolding attribute_line store_point
    pointed code state next kind has e =
        let p = passed _ _ _ _ (no_go 18 1 due x) e in
        by (coded_by code l fs refl has) p.0 (component_values m.undefined 2 a.components (drop 1 fs)) refl p.1
      where
        by : CodedBy code l fs → is_forbidden a.forms state (line_code_of fs) ≡ false → (q : Cells) → component_values m.undefined 2 a.components (drop 1 fs) ≡ q
            → store_point m rooms own kind (way next) c q ≡ go due x → Pointed code state next kind
        by b form (refused n f) h e = absurd (no_go n f due x e)
        by b form (cells vs) h e =
            let h' : component_values m.undefined 2 a.components b.others ≡ cells vs = rw b.behind at h in
            record { vs = vs; line = record { others = b.others; coded = b.coded; values = values_of m.undefined 2 a.components b.others vs h' }; form = form; same = (passed _ _ _ _ (no_go 16 0 due x) e).1 }

    straight_allowed : (state : LineState) → is_in_arc state ≡ false → line_code_of fs ≡ lipt → is_forbidden a.forms state (line_code_of fs) ≡ false → HasStraights a.forms
    unfolding is_forbidden
    straight_allowed state out e h = eqb-false a.forms 2 (rw (e, out) at h)

    arc_allowed : (state : LineState) → line_code_of fs ≡ arcp → is_forbidden a.forms state (line_code_of fs) ≡ false → HasArcs a.forms
    unfolding is_forbidden
    arc_allowed state e h = eqb-false a.forms 1 (rw e at h)

    on_step : (state : LineState) → Open state → is_in_arc state ≡ false → line_code_of fs ≡ lipt → has_code LIPT fs ≡ true → attribute_line m rooms own (way state) fs c (point 1 reached) ≡ go due x → LineStep l c state due x
    on_step state o out e has h =
        let p = pointed LIPT state reached 1 has h in
        told_of (LineStep l c state) _ due _ x p.same (on o p.vs (straight_allowed state out e p.form) p.line)

    bow_step : (state : LineState) → Open state → line_code_of fs ≡ arcp → has_code ARCP fs ≡ true → attribute_line m rooms own (way state) fs c (point 2 in_arc) ≡ go due x → LineStep l c state due x
    bow_step state o e has h =
        let p = pointed ARCP state in_arc 2 has h in
        told_of (LineStep l c state) _ due _ x p.same (bow o p.vs (arc_allowed state e p.form) p.line)

    by_code : (state : LineState) (code : LineCode) → line_code_of fs ≡ code → CodeOf fs code → attribute_line m rooms own (way state) fs c (move state code) ≡ go due x → LineStep l c state due x
    unfolding move is_in_arc attribute_line bare
    by_code unstarted _ e (is_stpt has) h = let p = pointed STPT unstarted started 0 has h in told_of (LineStep l c unstarted) _ due _ x p.same (begin p.vs p.line)
    by_code unstarted _ e (is_lipt has) h = absurd (no_go 7 1 due x h)
    by_code unstarted _ e (is_arcp has) h = absurd (no_go 7 1 due x h)
    by_code unstarted _ e (is_elin has) h =
        let p = passed _ _ _ _ (no_go 12 1 due x) h in
        let q = passed _ _ _ _ (no_go 11 2 due x) p.1 in
        told_of (LineStep l c unstarted) _ due _ x q.1 (skip (alone_of ELIN l fs refl has q.0) (not-false _ p.0))
    by_code unstarted _ e is_other h = absurd (no_go 7 1 due x h)
    by_code started _ e (is_stpt has) h = absurd (no_go 7 1 due x h)
    by_code started _ e (is_lipt has) h = on_step started behind_start refl e has h
    by_code started _ e (is_arcp has) h = bow_step started behind_start e has h
    by_code started _ e (is_elin has) h = absurd (no_go 7 1 due x h)
    by_code started _ e is_other h = absurd (no_go 7 1 due x h)
    by_code in_arc _ e (is_stpt has) h = absurd (no_go 7 1 due x h)
    by_code in_arc _ e (is_lipt has) h = let p = pointed LIPT in_arc reached 1 has h in told_of (LineStep l c in_arc) _ due _ x p.same (through p.vs p.line)
    by_code in_arc _ e (is_arcp has) h = absurd (no_go 7 1 due x h)
    by_code in_arc _ e (is_elin has) h = absurd (no_go 7 1 due x h)
    by_code in_arc _ e is_other h = absurd (no_go 7 1 due x h)
    by_code reached _ e (is_stpt has) h = absurd (no_go 7 1 due x h)
    by_code reached _ e (is_lipt has) h = on_step reached behind_point refl e has h
    by_code reached _ e (is_arcp has) h = bow_step reached behind_point e has h
    by_code reached _ e (is_elin has) h = let q = passed _ _ _ _ (no_go 11 2 due x) h in told_of (LineStep l c reached) _ due _ x q.1 (finish (alone_of ELIN l fs refl has q.0))
    by_code reached _ e is_other h = absurd (no_go 7 1 due x h)

    line_step : (state : LineState) → step_at m rooms own (line_of (way state)) c l ≡ go due x → LineStep l c state due x
    unfolding line_due
    line_step state h = by_code state (line_code_of fs) refl (code_of fs) h

  -- ## Segments

  module _ (z : Content) where
    abbrev Goes : Due → Content → List Line → Type 0
    Goes due c ls = steps m rooms own due c ls ≡ go nothing z

    not_done : (state : LineState) (c : Content) → Goes (line_of (way state)) c [] → ⊥
    unfolding steps
    not_done state c h = let y : ◌≡◌ {A = ℕ} 0 1 = cc in omega arith

    -- ELIN, and what follows
    record EndOf (c : Content) (ls : List Line) : Type 0 where
      e : Line
      others : List Line
      is : ls ≡ e ∷ others
      end : Alone ELIN e
      goes : Goes (due_lines t (point_count c) rest) (with_line (way reached) c) others

    -- one or more segments, ELIN, and what follows
    record SegmentsOf (c : Content) (ls : List Line) : Type 0 where
      these : List Line
      points : List Point
      segments : Segments m.undefined a.forms a.components these points
      behind : List Line
      is : ls ≡ these ++ behind
      end : EndOf (with_points points c) behind

    data ReachedOf (c : Content) (ls : List Line) : Type 0 where
      now : EndOf c ls → ReachedOf c ls
      then : SegmentsOf c ls → ReachedOf c ls

    behind_segment : (these : List Line) (ps : List Point) (c : Content) (ls : List Line) → Segment m.undefined a.forms a.components these ps → ReachedOf (with_points ps c) ls → SegmentsOf c (these ++ ls)
    behind_segment these ps c ls s (now e) = record { these = these; points = ps; segments = last s; behind = ls; is = refl; end = e }
    behind_segment these ps c ls s (then r) = record {
      these = these ++ r.these;
      points = ps ++ r.points;
      segments = more s r.segments;
      behind = r.behind;
      is = ap (λ (y : List Line). these ++ y) r.is ∙ sym (append_assoc these r.these r.behind);
      end = subst (λ (y : Content). EndOf y r.behind) (points_on ps r.points c) r.end;
    }

    pub at_point : (kind : ℕ) (vs : List ℤ) (due : Due) (c : Content) (ls : List Line) → Goes due (with_point (point_cells kind vs) c) ls → Goes due (with_points (record { kind = kind; values = vs } ∷ []) c) ls
    at_point kind vs due c ls h = subst (λ (y : Content). Goes due y ls) (one_point kind vs c) h

    unfoldable ReachedAt : ℕ → Type 0
    ReachedAt n = (ls : List Line) → length ls ≤ n → (c : Content) → Goes (line_of (way reached)) c ls → ReachedOf c ls

    -- behind ARCP
    arc_of : (n : ℕ) → ReachedAt n → (b : Line) (vs : List ℤ) (c : Content) → HasArcs a.forms → PointLine m.undefined a.components ARCP b vs → (ls : List Line) → length ls ≤ n
        → Goes (line_of (way in_arc)) (with_points (record { kind = 2; values = vs } ∷ []) c) ls → SegmentsOf c (b ∷ ls)
    unfolding ReachedAt
    arc_of n ih b vs c form p [] short h = absurd (not_done in_arc _ h)
    arc_of n ih b vs c form p (l ∷ ls) short h =
        let c₁ : Content = with_points (record { kind = 2; values = vs } ∷ []) c in
        let f = first_of m rooms own (line_of (way in_arc)) nothing c₁ z l ls h in
        by f.due' f.content (line_step l c₁ f.due' f.content in_arc f.goes) f.others
      where
        by : (due : Due) (x : Content) → LineStep l (with_points (record { kind = 2; values = vs } ∷ []) c) in_arc due x → Goes due x ls → SegmentsOf c (b ∷ (l ∷ ls))
        by _ _ (through ws q) g =
            let first : Point = record { kind = 2; values = vs } in
            let second : Point = record { kind = 1; values = ws } in
            let g' : Goes (line_of (way reached)) (with_points (first ∷ second ∷ []) c) ls =
            subst (λ (y : Content). Goes (line_of (way reached)) y ls) (points_on (first ∷ []) (second ∷ []) c) (at_point 1 ws (line_of (way reached)) (with_points (first ∷ []) c) ls g) in
            behind_segment (b ∷ l ∷ []) (first ∷ second ∷ []) c ls (arc form p q) (ih ls (omega arith) (with_points (first ∷ second ∷ []) c) g')
        by _ _ (on x _ _ _) g = elim x [ ]
        by _ _ (bow x _ _ _) g = elim x [ ]

    straight_of : (n : ℕ) → ReachedAt n → (l : Line) (vs : List ℤ) (c : Content) → HasStraights a.forms → PointLine m.undefined a.components LIPT l vs → (ls : List Line) → length ls ≤ n
        → Goes (line_of (way reached)) (with_point (point_cells 1 vs) c) ls → SegmentsOf c (l ∷ ls)
    unfolding ReachedAt
    straight_of n ih l vs c form p ls short h =
        behind_segment (l ∷ []) (record { kind = 1; values = vs } ∷ []) c ls (straight form p) (ih ls short (with_points (record { kind = 1; values = vs } ∷ []) c) (at_point 1 vs (line_of (way reached)) c ls h))

    reached_of : (n : ℕ) → ReachedAt n
    unfolding ReachedAt
    reached_of zero [] short c h = absurd (not_done reached c h)
    reached_of zero (l ∷ ls) short c h = absurd (omega arith)
    reached_of (suc n) [] short c h = absurd (not_done reached c h)
    reached_of (suc n) (l ∷ ls) short c h =
        let f = first_of m rooms own (line_of (way reached)) nothing c z l ls h in
        by (reached_of n) f.due' f.content (line_step l c f.due' f.content reached f.goes) f.others
      where
        by : ReachedAt n → (due : Due) (x : Content) → LineStep l c reached due x → Goes due x ls → ReachedOf c (l ∷ ls)
        by ih _ _ (on o vs form p) g = then (straight_of n ih l vs c form p ls (omega arith) g)
        by ih _ _ (bow o vs form p) g = then (arc_of n ih l vs c form p ls (omega arith) (at_point 2 vs (line_of (way in_arc)) c ls g))
        by ih _ _ (finish e) g = now (record { e = l; others = ls; is = refl; end = e; goes = g })

    started_of : (ls : List Line) (c : Content) → Goes (line_of (way started)) c ls → SegmentsOf c ls
    started_of [] c h = absurd (not_done started c h)
    started_of (l ∷ ls) c h =
        let f = first_of m rooms own (line_of (way started)) nothing c z l ls h in
        by f.due' f.content (line_step l c f.due' f.content started f.goes) f.others
      where
        by : (due : Due) (x : Content) → LineStep l c started due x → Goes due x ls → SegmentsOf c (l ∷ ls)
        by _ _ (on o vs form p) g = straight_of (length ls) (reached_of (length ls)) l vs c form p ls (omega arith) g
        by _ _ (bow o vs form p) g = arc_of (length ls) (reached_of (length ls)) l vs c form p ls (omega arith) (at_point 2 vs (line_of (way in_arc)) c ls g)

    -- ## A line attribute

    pub data AttributeOf (c : Content) (ls : List Line) : Type 0 where
      undrawn_of : (e : Line) (others : List Line) → ls ≡ e ∷ others → Alone ELIN e → a.optional ≡ true → Goes (due_lines t k rest) c others → AttributeOf c ls
      drawn_of : (these others : List Line) (points : List Point) → ls ≡ these ++ others → Drawn m.undefined a.forms a.components these points
          → Goes (due_lines t (point_count (with_points points c)) rest) (with_line (way reached) (with_points points c)) others → AttributeOf c ls

    pub attribute_of_lem : (ls : List Line) (c : Content) → Goes (line_of (way unstarted)) c ls → AttributeOf c ls
    attribute_of_lem [] c h = absurd (not_done unstarted c h)
    attribute_of_lem (l ∷ ls) c h =
        let f = first_of m rooms own (line_of (way unstarted)) nothing c z l ls h in
        by f.due' f.content (line_step l c f.due' f.content unstarted f.goes) f.others
      where
        by : (due : Due) (x : Content) → LineStep l c unstarted due x → Goes due x ls → AttributeOf c (l ∷ ls)
        by _ _ (skip e o) g = undrawn_of l ls refl e o g
        by _ _ (on x _ _ _) g = elim x [ ]
        by _ _ (bow x _ _ _) g = elim x [ ]
        by _ _ (begin vs p) g =
            let first : Point = record { kind = 0; values = vs } in
            let s = started_of ls (with_points (first ∷ []) c) (at_point 0 vs (line_of (way started)) c ls g) in
            let e = s.end in
            let goes' = e.goes in
            drawn_of (l ∷ (s.these ++ (e.e ∷ []))) e.others (first ∷ s.points)
            (ap (λ (y : List Line). l ∷ y) (s.is ∙ (ap (λ (y : List Line). s.these ++ y) e.is ∙ sym (append_assoc s.these (e.e ∷ []) e.others))))
            (drawn p s.segments e.end)
            (subst (λ (y : Content). Goes (due_lines t (point_count y) rest) (with_line (way reached) y) e.others) (points_on (first ∷ []) s.points c) goes')
