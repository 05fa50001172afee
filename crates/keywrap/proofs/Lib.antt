pub mod StepLaws
pub mod WholeLaws
pub mod PaddingLaws
pub mod Accepted
pub mod CodeLaws
pub mod CallLaws
