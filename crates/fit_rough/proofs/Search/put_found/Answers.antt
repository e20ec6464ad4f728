-- What is left to answer of `fit_rough::Search::put_found`'s goals.
use Prim.Native.Nat.{◌<◌, ◌*◌}
use native.Mathlib.Omega.{arith}
use Rattle.rules.specs.Window.{fitted}
use Rattle.fit_rough.specs.Search.{found_put}
use Rattle.fit_rough.proofs.Pixels.{spot_is, spot_in, pixel_in}
use Rattle.fit_rough.proofs.Search.put_found.Goals as goal

pub offsets_of-offsets-requires : goal.offsets_of-offsets-requires
offsets_of-offsets-requires c =
    let a = c.args in
    let s = a.self.now in
    omega (arith, c.place-spot.ensures, spot_in s.sizes s.formed a.x a.y c.requires.left c.requires.above, s.chroma_long)

pub put_model-requires : goal.put_model-requires
put_model-requires c =
    let a = c.args in
    let s = a.self.now in
    let q = c.requires.outputs in
    let inside : c.place-at.result < s.sizes.width * s.sizes.height = rw c.place-at.ensures (pixel_in s.sizes s.formed a.x a.y c.requires.left c.requires.above) in
    omega (arith, inside, q.models_long)

pub bounds-kept-at : goal.bounds-kept-at
bounds-kept-at c =
    let a = c.args in
    let s = a.self.now in
    let q = c.requires.outputs in
    let inside : c.place-at.result < s.sizes.width * s.sizes.height = rw c.place-at.ensures (pixel_in s.sizes s.formed a.x a.y c.requires.left c.requires.above) in
    omega (arith, inside, q.kept_long)

pub returns : goal.returns
unfolding found_put fitted
returns c =
    let a = c.args in
    let s = a.self.now in
    rw (c.put_model.ensures, c.offsets_of-offsets.ensures, c.place-spot.ensures, c.place-at.ensures, spot_is s.sizes s.formed a.x a.y c.requires.left c.requires.above)
