pub mod FilterLaws
pub mod LoopLaws
pub mod NextLaws
pub mod OtherLaws
pub mod PlaceLaws
pub mod StepLaws
pub mod TimeLaws
