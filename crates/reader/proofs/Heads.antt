-- Heads are written in one way: a line is the head of one edition and one set of figures.
--     cut_same        lists of which the fronts are equally long are the same part by part
--     fields_same     the same for a field in front
--     head_one        no two heads have one line
use Rattle.std.proofs.Common.{◌≡◌, ℕ, true, List, ◌++◌, length, take, drop, sym, ap, ◌∙◌, arith}
use Rattle.std.proofs.lemmas.List.{take_at, drop_at}
use Rattle.digits.specs.Fields.{field, Fits}
use Rattle.digits.proofs.Fields.{field_length, field_same}
use Rattle.archive.specs.declared.figures.Head.{Head}
use Rattle.archive.specs.File.{head_text, head_fits}
use Rattle.reader.specs.Frames.{HeadIs}

pub cut_same : (a b c d : List ℕ) (n : ℕ) → length a ≡ n → length b ≡ n → a ++ c ≡ b ++ d → (a ≡ b) × (c ≡ d)
cut_same a b c d n la lb e = (
  sym (take_at a c n la) ∙ ap (take n) e ∙ take_at b d n lb,
  sym (drop_at a c n la) ∙ ap (drop n) e ∙ drop_at b d n lb,
)

pub fields_same : (w x y : ℕ) (c d : List ℕ) → Fits w x → Fits w y → field w x ++ c ≡ field w y ++ d → (x ≡ y) × (c ≡ d)
fields_same w x y c d f g e =
    let p = cut_same (field w x) (field w y) c d w (field_length w x) (field_length w y) e in
    (field_same w x y f g p.0, p.1)

pub record HeadFitting (h : Head) : Type 0 where
  pub roughness : Fits 4 h.roughness
  pub misfit : Fits 6 h.misfit
  pub bend : Fits 6 h.bend
  pub readings : Fits 4 h.readings
  pub stiffness : Fits 4 h.stiffness
  pub denominator : Fits 4 h.denominator
  pub allowance : Fits 16 h.allowance

pub head_fitting : (h : Head) → head_fits h ≡ true → HeadFitting h
head_fitting h e = record { roughness = grind arith; misfit = grind arith; bend = grind arith; readings = grind arith; stiffness = grind arith; denominator = grind arith; allowance = grind arith }

same_head : (g h : Head) → g.roughness ≡ h.roughness → g.misfit ≡ h.misfit → g.bend ≡ h.bend → g.readings ≡ h.readings → g.stiffness ≡ h.stiffness → g.denominator ≡ h.denominator → g.allowance ≡ h.allowance → g ≡ h
same_head g h a b c d e f i = λ k. record { roughness = a k; misfit = b k; bend = c k; readings = d k; stiffness = e k; denominator = f k; allowance = i k }

pub head_one : (l : List ℕ) (e e' : ℕ) (h h' : Head) → HeadIs l e h → HeadIs l e' h' → (e ≡ e') × (h ≡ h')
unfolding head_text
head_one l e e' h h' a b =
    let f = head_fitting h a.fitting in
    let f' = head_fitting h' b.fitting in
    let t = ap (drop 2) (sym a.text ∙ b.text) in
    let p0 = fields_same 2 e e' _ _ a.edition_fits b.edition_fits t in
    let p1 = fields_same 4 h.roughness h'.roughness _ _ f.roughness f'.roughness p0.1 in
    let p2 = fields_same 6 h.misfit h'.misfit _ _ f.misfit f'.misfit p1.1 in
    let p3 = fields_same 6 h.bend h'.bend _ _ f.bend f'.bend p2.1 in
    let p4 = fields_same 4 h.readings h'.readings _ _ f.readings f'.readings p3.1 in
    let p5 = fields_same 4 h.stiffness h'.stiffness _ _ f.stiffness f'.stiffness p4.1 in
    let p6 = fields_same 4 h.denominator h'.denominator _ _ f.denominator f'.denominator p5.1 in
    let p7 = field_same 16 h.allowance h'.allowance f.allowance f'.allowance p6.1 in
    (p0.0, same_head h h' p1.0 p2.0 p3.0 p4.0 p5.0 p6.0 p7)
