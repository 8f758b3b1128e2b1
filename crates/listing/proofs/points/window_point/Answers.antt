-- `window_point`: each answer by the law of the points that get there.
-- The check leaves each of these goals open without its answer.
use Rattle.std.proofs.Common.{rules, sym, ◌∙◌, arith, get_or, ap, List, ◌-◌, ℕ, Bor, []}
use Rattle.arith.specs.declared.bracket.Bracket.{Bracket}
use Rattle.model.specs.declared.window.Point.TheVariants.{Factor, Money}
use Rattle.method.specs.Window.{factor_point}
use Rattle.listing.proofs.points.ByNumber.{figure-in-order, point-of, no_bracket, none-shown, later-shown, short-shown, factor-shown, money-shown}
use Rattle.listing.proofs.points.Chunks.{ends-of-chunk}
use Rattle.listing.proofs.points.window_point.Goals as goal

pub returns-in-121-to-130 : goal.returns-in-121-to-130
returns-in-121-to-130 c =
    let none : Bor (List ℕ) × Bracket = (record { ref_ptr = (0, 0); now = [] }, no_bracket) in
    point-of (get_or c.named_figures.result (c.args.point - 121) none).1 Money _ _ c.held_doubles-in-121-to-130.ensures (search rules)
    ∙ sym (money-shown c.args.factors.now c.args.figures c.args.point _ (omega arith) (omega arith)
    (figure-in-order (λ (name : Bor (List ℕ)). name.now) c.named_figures.result c.args.figures (c.args.point - 121) none c.named_figures.ensures.named (omega arith)))

pub returns-in_default : goal.returns-in_default
returns-in_default c = sym (none-shown _ _ _ (omega arith))

pub returns-in_default-2 : goal.returns-in_default-2
returns-in_default-2 c = sym (later-shown _ _ _ (omega arith))

pub returns-in_default-get : goal.returns-in_default-get
returns-in_default-get c =
    let few = c.in_default-get.ensures.lookup.3 in
    sym (short-shown _ _ _ (omega arith) (omega arith) (omega (arith, few, c.as_chunks.ensures.front_len)))

pub returns-in-Some : goal.returns-in-Some
returns-in-Some c =
    let here = c.in-Some.ensures.lookup.3 in
    let chunk = c.in-Some.field-0.now in
    let is = ends-of-chunk c.as_chunks.result.0.now c.args.factors.now c.args.point chunk c.as_chunks.ensures.front (here.1 _) (omega (arith, here.0, c.as_chunks.ensures.front_len)) in
    point-of (record { lower = get_or chunk 0 0; upper = get_or chunk 1 0 }) Factor _ _ c.held_doubles.ensures (search rules)
    ∙ ap (λ (b : Bracket). factor_point b) is
    ∙ sym (factor-shown _ _ _ (omega arith) (omega arith) (omega (arith, here.0, c.as_chunks.ensures.front_len)))
