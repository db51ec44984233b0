-- A head has one walk.
use Rattle.std.proofs.Common.{◌≡◌, ℕ, ◌+◌, ◌*◌, List, [], ◌∷◌, sym, ap, ◌∙◌, subst}
use Rattle.kx_pages.specs.declared.item.Item.{Item}
use Rattle.kx_pages.specs.declared.item.Item.TheVariants.{Link, Destination, Source, Done}
use Rattle.kx_pages.specs.Items.{code, decode}
use Rattle.kx_pages.specs.Bytes.{Mem}
use Rattle.page_memory.specs.Memory.{word}
use Rattle.kx_laws.proofs.Options.{some_same}
use Rattle.list_checker.specs.Walk.{Reads, Walk}
use Rattle.list_checker.specs.inner.Laws.{OneWalk}
use Rattle.list_checker.proofs.Checking.{decode-code}

same_item : (w : ℕ) (i j : Item) → w ≡ code i → w ≡ code j → i ≡ j
same_item w i j e f = some_same i j (sym (decode-code i) ∙ ap decode (sym e ∙ f) ∙ decode-code j)

-- a reading is one item and the rest
first_read : (M : Mem) (a : ℕ) (i : Item) (is : List Item) → Reads M a (i ∷ is) → word M a ≡ code i
first_read M a (Link p) is r = r.0
first_read M a (Destination p) is r = r.0
first_read M a (Source p) is r = r.0
first_read M a (Done p) is r = r.0

reads_same : (M : Mem) (a : ℕ) (is js : List Item) → Reads M a is → Reads M a js → is ≡ js
reads_same M a [] js r s = absurd r
reads_same M a (i ∷ is) [] r s = absurd s
reads_same M a (Link p ∷ is) (j ∷ js) r s =
    let e = same_item (word M a) j (Link p) (first_read M a j js s) r.0 in
    let s' : Reads M a (Link p ∷ js) = subst (λ k. Reads M a (k ∷ js)) e s in
    ap (λ ks. Link p ∷ ks) (reads_same M (4096 * p) is js r.2 s'.2) ∙ ap (λ k. k ∷ js) (sym e)
reads_same M a (Destination p ∷ is) (j ∷ js) r s =
    let e = same_item (word M a) j (Destination p) (first_read M a j js s) r.0 in
    let s' : Reads M a (Destination p ∷ js) = subst (λ k. Reads M a (k ∷ js)) e s in
    ap (λ ks. Destination p ∷ ks) (reads_same M (a + 8) is js r.3 s'.3) ∙ ap (λ k. k ∷ js) (sym e)
reads_same M a (Source p ∷ is) (j ∷ js) r s =
    let e = same_item (word M a) j (Source p) (first_read M a j js s) r.0 in
    let s' : Reads M a (Source p ∷ js) = subst (λ k. Reads M a (k ∷ js)) e s in
    ap (λ ks. Source p ∷ ks) (reads_same M (a + 8) is js r.3 s'.3) ∙ ap (λ k. k ∷ js) (sym e)
reads_same M a (Done p ∷ is) (j ∷ js) r s =
    let e = same_item (word M a) j (Done p) (first_read M a j js s) r.0 in
    let s' : Reads M a (Done p ∷ js) = subst (λ k. Reads M a (k ∷ js)) e s in
    ap (λ ks. Done p ∷ ks) (r.1 ∙ sym s'.1) ∙ ap (λ k. k ∷ js) (sym e)

first_word : (M : Mem) (head : ℕ) (i : Item) (is : List Item) → Walk M head (i ∷ is) → head ≡ code i
first_word M head (Link p) is r = r.0
first_word M head (Destination p) is r = absurd r
first_word M head (Source p) is r = absurd r
first_word M head (Done p) is r = r.0

pub walk_same : OneWalk
walk_same M head [] js r s = absurd r
walk_same M head (i ∷ is) [] r s = absurd s
walk_same M head (Destination p ∷ is) (j ∷ js) r s = absurd r
walk_same M head (Source p ∷ is) (j ∷ js) r s = absurd r
walk_same M head (Link p ∷ is) (j ∷ js) r s =
    let e = same_item head j (Link p) (first_word M head j js s) r.0 in
    let s' : Walk M head (Link p ∷ js) = subst (λ k. Walk M head (k ∷ js)) e s in
    ap (λ ks. Link p ∷ ks) (reads_same M (4096 * p) is js r.2 s'.2) ∙ ap (λ k. k ∷ js) (sym e)
walk_same M head (Done p ∷ is) (j ∷ js) r s =
    let e = same_item head j (Done p) (first_word M head j js s) r.0 in
    let s' : Walk M head (Done p ∷ js) = subst (λ k. Walk M head (k ∷ js)) e s in
    ap (λ ks. Done p ∷ ks) (r.1 ∙ sym s'.1) ∙ ap (λ k. k ∷ js) (sym e)
