use Rattle.std.proofs.Common.{◌≡◌, ℕ, List, take, Option, None, Some, IfSome, ap, ◌∙◌, arith}
use Rattle.std.specs.Option.{option_map}
use Rattle.std.proofs.lemmas.List.{take-take}
use Rattle.sc_source.proofs.file_source.read_front.Goals as goal

-- a prefix of what a limit lets through
front_of : (known : Option (List ℕ)) (limit most : ℕ) (bytes kept : List ℕ) → limit ≡ most → IfSome (option_map (take limit) known) (λ all. bytes ≡ all)
    → kept ≡ take most bytes → IfSome known (λ all. kept ≡ take most all)
front_of None limit most bytes kept same whole cut = tt
front_of (Some all) limit most bytes kept same whole cut = cut ∙ ap (take most) (whole ∙ ap (λ n. take n all) same) ∙ take-take most most all (omega arith)

pub returns-in-Ok-clause-front : goal.returns-in-Ok-clause-front
returns-in-Ok-clause-front g c =
    front_of (g.F.Read.remaining c.args.file) c.take.result.limit c.args.most c.read_to_end.new.buf.items c.truncate.new.self.items c.take.ensures.limit
    (rw (c.take.ensures.inner, c.new-bytes.ensures.items) at c.in-Ok.ensures.bytes) c.truncate.ensures.items
