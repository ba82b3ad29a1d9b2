-- The laws of xor that the labels of cells use.
use Rattle.std.proofs.Common.{◌≡◌, Bool, false, arith}
use Rattle.std.proofs.lemmas.Bool.{cases_Bool}
use Rattle.xorset.specs.Cells.{xor}

-- a label that is moved by d has its parity changed by d
pub xor_regroup : (o d x : Bool) → xor o (xor d x) ≡ xor (xor d o) x
xor_regroup o d x = grind (arith, cases_Bool o, cases_Bool d, cases_Bool x)

-- the values of two roots differ by the link's value and the two parities
pub xor_roots : (p q x y v a b : Bool) → xor a b ≡ v → a ≡ xor p x → b ≡ xor q y → y ≡ xor (xor v (xor p q)) x
xor_roots p q x y v a b e f g = grind (arith, cases_Bool p, cases_Bool q, cases_Bool x, cases_Bool y)

-- a value does not differ from itself
pub xor_same : (d x y : Bool) → y ≡ xor d x → x ≡ y → d ≡ false
xor_same d x y e f = grind (arith, cases_Bool d, cases_Bool x)

-- a difference is the same in both directions
pub xor_back : (d x y : Bool) → y ≡ xor d x → x ≡ xor d y
xor_back d x y e = grind (arith, cases_Bool d, cases_Bool x)

-- a link inside a class that does not fail is met
pub xor_met : (v p q : Bool) → xor v (xor p q) ≡ false → xor p q ≡ v
xor_met v p q e = grind (arith, cases_Bool v, cases_Bool p, cases_Bool q)

-- a link between two classes is met when the class of the right cell has moved
pub xor_right : (v p q : Bool) → xor p (xor (xor v (xor p q)) q) ≡ v
xor_right v p q = grind (arith, cases_Bool v, cases_Bool p, cases_Bool q)

-- and when the class of the left cell has moved
pub xor_left : (v p q : Bool) → xor (xor (xor v (xor p q)) p) q ≡ v
xor_left v p q = grind (arith, cases_Bool v, cases_Bool p, cases_Bool q)

-- two parities that both change differ as before
pub xor_both : (d x y : Bool) → xor (xor d x) (xor d y) ≡ xor x y
xor_both d x y = grind (arith, cases_Bool d, cases_Bool x, cases_Bool y)

-- values that meet a link meet it also when both change by one value
pub xor_mixed : (a b x y v : Bool) → xor a b ≡ v → x ≡ y → xor (xor a x) (xor b y) ≡ v
xor_mixed a b x y v e f = grind (arith, cases_Bool a, cases_Bool b, cases_Bool x, cases_Bool y)

-- what does not change a value is 0
pub xor_own : (o x : Bool) → o ≡ xor o x → x ≡ false
xor_own o x e = grind (arith, cases_Bool o, cases_Bool x)

-- and 0 changes none
pub xor_zero : (o x : Bool) → x ≡ false → xor o x ≡ o
xor_zero o x e = grind (arith, cases_Bool o, cases_Bool x)

-- two values that change another alike are equal
pub xor_cancel : (o x a b : Bool) → x ≡ false → xor o a ≡ xor o (xor x b) → a ≡ b
xor_cancel o x a b e f = grind (arith, cases_Bool o, cases_Bool a, cases_Bool b)

-- two cells that are linked to one, by the same code, have one value: two left cells
pub xor_left_same : (a b c d v : Bool) → xor a c ≡ v → xor b d ≡ v → c ≡ d → a ≡ b
xor_left_same a b c d v e f q = grind (arith, cases_Bool a, cases_Bool b, cases_Bool c, cases_Bool d)

-- and two right cells
pub xor_right_same : (a b c d v : Bool) → xor c a ≡ v → xor d b ≡ v → c ≡ d → a ≡ b
xor_right_same a b c d v e f q = grind (arith, cases_Bool a, cases_Bool b, cases_Bool c, cases_Bool d)
