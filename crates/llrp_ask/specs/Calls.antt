-- What public contracts say that no promise of README rests on.
pub mod Answers
pub mod Asking
pub mod Courses
pub mod File
pub mod Files
pub mod Next
pub mod Pause
pub mod Raw
pub mod Responses
pub mod Run
pub mod Shown
