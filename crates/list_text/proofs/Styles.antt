-- What is written in the compact style is list text: each part of the one style is that part in the other. Assumes nothing.
use Rattle.std.proofs.Common.{ℕ, List, [], ◌∷◌, ◌++◌, ℤ, Some, None, Option, subst}
use Rattle.spans.specs.declared.minutes.Minutes.{Minutes}
use Rattle.networks.specs.declared.window.Window.{Window}
use Rattle.networks.specs.Network.{Condition}
use Rattle.list_text.specs.Grammar.{Part, Listing, blank, Over, none, Blanks, Nothing, free, compact, Natural, Integer, End, OneWindow, MoreWindows, Windows, OneRow, AllRows, Header, Text, Says}

abbrev Within : Part → Part → Type 0
Within f g = (u v : List ℕ) → f u v → g u v

gap : Within Nothing Blanks
gap u v e = subst (Over blank u) e none

natural : (n : ℕ) → Within (Natural compact n) (Natural free n)
natural n u v x = (x.0, x.1.numeral, gap u (x.0 ++ v) x.2)

integer : (z : ℤ) → Within (Integer compact z) (Integer free z)
integer z u v x = let s = x.1 in (x.0, (s.0, s.1, s.2, s.3.numeral, s.4, s.5), gap u (x.0 ++ v) x.2)

end : (a : Option Minutes) → Within (End compact a) (End free a)
end (Some a) u v x = (x.0, gap _ _ x.1, (x.2.0, gap _ _ x.2.1, (x.2.2.0, integer a.count _ _ x.2.2.1, gap _ _ x.2.2.2)))
end None u v x = gap _ _ x

window : (w : Window Minutes) → Within (OneWindow compact w) (OneWindow free w)
window w u v x =
    let a = x.2 in
    let b = a.2 in
    let c = b.2 in
    (x.0, gap _ _ x.1, (a.0, end w.low _ _ a.1, (b.0, gap _ _ b.1, (c.0, end w.high _ _ c.1, gap _ _ c.2))))

more_windows : (ws : List (Window Minutes)) → Within (MoreWindows compact ws) (MoreWindows free ws)
more_windows [] u v x = x
more_windows (w ∷ ws) u v x = (x.0, gap _ _ x.1, (x.2.0, window w _ _ x.2.1, more_windows ws _ _ x.2.2))

windows : (ws : List (Window Minutes)) → Within (Windows compact ws) (Windows free ws)
windows [] u v x = x
windows (w ∷ ws) u v x = (x.0, window w _ _ x.1, more_windows ws _ _ x.2)

row : (c : Condition Minutes) → Within (OneRow compact c) (OneRow free c)
row c u v x =
    let a = x.2 in
    let b = a.2 in
    let d = b.2 in
    let e = d.2 in
    let f = e.2 in
    let g = f.2 in
    let h = g.2 in (
      x.0,
      gap _ _ x.1,
      (
        a.0,
        natural c.from _ _ a.1,
        (
          b.0,
          gap _ _ b.1,
          (
            d.0,
            natural c.to _ _ d.1,
            (
              e.0,
              gap _ _ e.1,
              (f.0, gap _ _ f.1, (g.0, windows c.windows _ _ g.1, (h.0, gap _ _ h.1, gap _ _ h.2))),
            ),
          ),
        ),
      ),
    )

rows : (cs : List (Condition Minutes)) → Within (AllRows compact cs) (AllRows free cs)
rows [] u v x = x
rows (c ∷ cs) u v x = (x.0, gap _ _ x.1, (x.2.0, row c _ _ x.2.1, rows cs _ _ x.2.2))

header : (n m : ℕ) → Within (Header compact n m) (Header free n m)
header n m u v x =
    let a = x.2 in
    let b = a.2 in
    let d = b.2 in
    let e = d.2 in
    let f = e.2 in
    let g = f.2 in (
      x.0,
      gap _ _ x.1,
      (
        a.0,
        natural n _ _ a.1,
        (
          b.0,
          gap _ _ b.1,
          (
            d.0,
            natural m _ _ d.1,
            (
              e.0,
              gap _ _ e.1,
              (f.0, gap _ _ f.1, (g.0, gap _ _ g.1, gap _ _ g.2)),
            ),
          ),
        ),
      ),
    )

pub compact_says : (l : Listing) (t : List ℕ) → Text compact l t [] → Says t l
compact_says l t x =
    let a = x.2 in
    let b = a.2 in
    let c = b.2 in
    (x.0, gap _ _ x.1, (a.0, header l.first l.second _ _ a.1, (b.0, rows l.conditions _ _ b.1, (c.0, gap _ _ c.1, gap _ _ c.2))))
