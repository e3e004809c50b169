-- When a call is granted, at any sheet.
use Rattle.std.proofs.Common.{◌≡◌, ℕ, ◌<◌, ◌≤◌, true, Ok}
use Rattle.std.proofs.lemmas.Bool.{lt-ltb, le-leb, eq-eqb}
use Rattle.model.specs.Sheets.{Sheet, places, spare, is_net, bare_at, lay_answer, bar_answer}

pub lay_ok : (b : Sheet) (p n : ℕ) → p < places b → is_net n ≡ true → b.area.opened p n ≡ true → bare_at b p ≤ spare b → lay_answer b p n ≡ Ok tt
lay_ok b p n l k o m =
    let inside = lt-ltb p (places b) l in
    let enough = le-leb (bare_at b p) (spare b) m in
    simp (inside, k, o, enough)

pub bar_ok : (b : Sheet) (p : ℕ) → p < places b → b.metal.copper p ≡ 0 → bare_at b p ≤ spare b → bar_answer b p ≡ Ok tt
bar_ok b p l z m =
    let inside = lt-ltb p (places b) l in
    let bare = eq-eqb (b.metal.copper p) 0 z in
    let enough = le-leb (bare_at b p) (spare b) m in
    rw (inside, enough, bare)
