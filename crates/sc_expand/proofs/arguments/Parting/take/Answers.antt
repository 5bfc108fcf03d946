use Rattle.std.proofs.Common.{◌≡◌, ◌∙◌, ◌++◌, ◌∷◌, [], ◌-◌, ◌+◌, All, IsTrue, drop, take, sym, ap, subst, refl}
use Rattle.sc_expand.proofs.Facts.{All-drop, All-push, All-take}
use Rattle.sc_expand.proofs.Parting.{between-drop_take, drop_take-more, drop_take-none, parted_apart, parted_onto, seen_arguments-push, seen_list-push}
use Rattle.sc_expand.proofs.Terms.{Hidden, IsHeldHidden, IsParting, Role, begun_with, parted, parted_with, role_of, seen_arguments, seen_hidden, seen_list}
use Rattle.sc_expand.specs.Arguments as model
use Rattle.sc_expand.proofs.arguments.Parting.take.Goals as goal

pub returns-in_ok-push-clause-is : goal.returns-in_ok-push-clause-is
returns-in_ok-push-clause-is c = λ sets next rest at.
    let names = c.args.names.now in
    let between = c.args.between.now in
    let index = c.args.index in
    let p = c.args.self.now in
    let t = seen_hidden names sets c.get.result in
    let done = seen_arguments names sets p.arguments.items in
    let front = seen_list names sets (drop p.begin (take index between)) in
    let same : c.get.result ≡ next = let both = c.get.ensures in cc in
    let P : Role → Type 0 = λ role. IsParting role p.commas p.depth in
    let is : IsParting (role_of t.spelling) p.commas p.depth = subst P c.role_of-role.ensures (c.parts.ensures.0 c.if-parts.true) in
    let argument : c.in_ok-argument.argument ≡ drop p.begin (take index between) = c.in_ok-argument.ensures ∙ between-drop_take p.begin index between c.requires.begin in
    let made : seen_arguments names sets c.push.new.self.items ≡ done ++ front ∷ [] =
    ap (seen_arguments names sets) c.in_ok-push.ensures.items ∙ (seen_arguments-push names sets p.arguments.items c.in_ok-argument.argument ∙ ap (λ l. done ++ seen_list names sets l ∷ []) argument) in
    let fresh : seen_list names sets (drop (index + 1) (take (index + 1) between)) ≡ [] = ap (seen_list names sets) (drop_take-none (index + 1) between) in
    ap (λ h. parted_with names sets between index p (seen_hidden names sets h ∷ rest)) (sym same)
    ∙ (parted_apart (parted_with names sets between index p (t ∷ rest)) done front p.commas p.depth t rest is refl
    ∙ (ap (λ n. (done ++ front ∷ []) ++ begun_with [] (parted (p.commas - 1) n rest)) (sym is.outside)
    ∙ (ap (λ l. l ++ begun_with [] (parted (p.commas - 1) p.depth rest)) (sym made)
    ∙ ap (λ l. seen_arguments names sets c.push.new.self.items ++ begun_with l (parted (p.commas - 1) p.depth rest)) (sym fresh))))

pub returns-in_ok-push-clause-own : goal.returns-in_ok-push-clause-own
returns-in_ok-push-clause-own c = λ sets held was.
    let P : Hidden → Type 0 = IsHeldHidden c.args.names.now sets in
    let begin = c.args.self.now.begin in
    let argument : All P c.in_ok-argument.argument = subst (All P) (sym c.in_ok-argument.ensures) (All-take P (c.args.index - begin) (drop begin c.args.between.now) (All-drop P begin c.args.between.now held)) in
    subst (All (All P)) (sym c.in_ok-push.ensures.items) (All-push (All P) c.args.self.now.arguments.items c.in_ok-argument.argument was argument)

pub returns-else-parts-clause-is : goal.returns-else-parts-clause-is
returns-else-parts-clause-is c = λ sets next rest at.
    let names = c.args.names.now in
    let between = c.args.between.now in
    let index = c.args.index in
    let p = c.args.self.now in
    let t = seen_hidden names sets c.get.result in
    let done = seen_arguments names sets p.arguments.items in
    let last = drop p.begin (take index between) in
    let front = seen_list names sets last in
    let same : c.get.result ≡ next = let both = c.get.ensures in cc in
    let P : Role → Type 0 = λ role. IsParting role p.commas p.depth → ⊥ in
    let is : IsParting (role_of t.spelling) p.commas p.depth → ⊥ = subst P c.role_of-role.ensures (λ parting. let on : IsTrue c.parts.result = c.parts.ensures.1 parting in let off = c.if-parts.false in absurd (cc)) in
    let grown : seen_list names sets (drop p.begin (take (index + 1) between)) ≡ front ++ t ∷ [] =
    ap (seen_list names sets) (drop_take-more p.begin index between c.get.result c.requires.begin c.get.ensures) ∙ seen_list-push names sets last c.get.result in
    let deep : model.depth_behind (role_of t.spelling) p.depth ≡ c.depth_behind-self.result = ap (λ role. model.depth_behind role p.depth) (sym c.role_of-role.ensures) ∙ sym c.depth_behind-self.ensures in
    ap (λ h. parted_with names sets between index p (seen_hidden names sets h ∷ rest)) (sym same)
    ∙ (parted_onto (parted_with names sets between index p (t ∷ rest)) done front p.commas p.depth t rest is refl
    ∙ (ap (λ n. done ++ begun_with (front ++ t ∷ []) (parted p.commas n rest)) deep ∙ ap (λ l. done ++ begun_with l (parted p.commas c.depth_behind-self.result rest)) (sym grown)))
